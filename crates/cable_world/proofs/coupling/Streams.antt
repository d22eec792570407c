-- What is under way on a wire, and the level that it brings: of the lists of signals alone.
use Rattle.std.proofs.Common.{◌≡◌, ℕ, ◌+◌, ◌-◌, ◌<◌, ◌≤◌, Bool, true, false, not, ◌&&◌, ◌||◌, List, [], ◌∷◌, ◌++◌, map, refl, ◌∙◌, ap, subst, le_trans, arith}
use Rattle.std.proofs.lemmas.Bool.{and_from, and_parts, or_parts}
use Rattle.port_state.specs.declared.signal.Level.{Level}
use Rattle.port_state.specs.declared.signal.Level.TheVariants as level
use Rattle.port_state.specs.declared.signal.Signal.{Signal}
use Rattle.port_state.specs.Ports.{is_parent}
use Rattle.cable_world.specs.Wire.{Travelling, new_signal, age_signal}
use Rattle.cable_world.specs.Agreement.{level_after_one, level_after}
use Rattle.cable_world.specs.Signals.{is_reset, signals_of, has_reset, shows_no_notice, is_no_notice, has_no_notice, is_parent_signal, has_no_parent_signal, takes_back, has_no_takeback, AllAsOldAs}
use Rattle.cable_world.specs.Coupling.{NoneTakesBack}
use Rattle.cable_world.specs.Lawful.{AgesFall}
use Rattle.std.proofs.lemmas.Bool.{not-true}

-- ---- tests

pub not-both : (b : Bool) → b ≡ true → b ≡ false → ⊥
not-both b f g = cc

-- ---- the signals under way

pub signals-append :
    (xs ys : List Travelling) → signals_of (xs ++ ys) ≡ signals_of xs ++ signals_of ys
signals-append [] ys = refl
signals-append (x ∷ xs) ys = ap (λ r. x.signal ∷ r) (signals-append xs ys)

pub signals-sent : (ss : List Signal) → signals_of (map new_signal ss) ≡ ss
signals-sent [] = refl
signals-sent (s ∷ ss) = ap (λ r. s ∷ r) (signals-sent ss)

pub signals-older : (ts : List Travelling) → signals_of (map age_signal ts) ≡ signals_of ts
signals-older [] = refl
signals-older (t ∷ ts) = ap (λ r. t.signal ∷ r) (signals-older ts)

-- ---- one after the other

pub has_reset-append : (xs ys : List Signal) → has_reset (xs ++ ys) ≡ (has_reset xs || has_reset ys)
has_reset-append [] ys = refl
has_reset-append (x ∷ xs) ys = ap (λ b. is_reset x || b) (has_reset-append xs ys) ∙ go (is_reset x) (has_reset xs) (has_reset ys)
  where
    go : (a b c : Bool) → (a || (b || c)) ≡ ((a || b) || c)
    go a b c = grind arith

and-and : (a b c : Bool) → (a && (b && c)) ≡ ((a && b) && c)
and-and a b c = grind arith

pub has_no_notice-append :
    (xs ys : List Signal) → has_no_notice (xs ++ ys) ≡ (has_no_notice xs && has_no_notice ys)
has_no_notice-append [] ys = refl
has_no_notice-append (x ∷ xs) ys = ap (λ b. is_no_notice x && b) (has_no_notice-append xs ys) ∙ and-and (is_no_notice x) (has_no_notice xs) (has_no_notice ys)

pub has_no_takeback-append :
    (xs ys : List Signal) → has_no_takeback (xs ++ ys) ≡ (has_no_takeback xs && has_no_takeback ys)
has_no_takeback-append [] ys = refl
has_no_takeback-append (x ∷ xs) ys = ap (λ b. not (takes_back x) && b) (has_no_takeback-append xs ys) ∙ and-and (not (takes_back x)) (has_no_takeback xs) (has_no_takeback ys)

pub has_no_parent_signal-append :
    (xs ys : List Signal) →
    has_no_parent_signal (xs ++ ys) ≡ (has_no_parent_signal xs && has_no_parent_signal ys)
has_no_parent_signal-append [] ys = refl
has_no_parent_signal-append (x ∷ xs) ys = ap (λ b. not (is_parent_signal x) && b) (has_no_parent_signal-append xs ys) ∙ and-and (not (is_parent_signal x)) (has_no_parent_signal xs) (has_no_parent_signal ys)

-- ---- the level that signals bring

pub level_after-low :
    (l : Level) (ss : List Signal) → shows_no_notice l ≡ true → has_no_notice ss ≡ true →
    shows_no_notice (level_after l ss) ≡ true
level_after-low l [] h g = h
level_after-low l (s ∷ ss) h g = level_after-low (level_after_one s l) ss (first s l h (and_parts (is_no_notice s) (has_no_notice ss) g).0) (and_parts (is_no_notice s) (has_no_notice ss) g).1
  where
    first :
        (s : Signal) (l : Level) → shows_no_notice l ≡ true → is_no_notice s ≡ true →
        shows_no_notice (level_after_one s l) ≡ true
    first s l h g = grind arith

pub level_after-has_no_parent_signal :
    (l : Level) (ss : List Signal) → is_parent l ≡ false → has_no_parent_signal ss ≡ true →
    is_parent (level_after l ss) ≡ false
level_after-has_no_parent_signal l [] h g = h
level_after-has_no_parent_signal l (s ∷ ss) h g = level_after-has_no_parent_signal (level_after_one s l) ss (first s l h (and_parts (not (is_parent_signal s)) (has_no_parent_signal ss) g).0) (and_parts (not (is_parent_signal s)) (has_no_parent_signal ss) g).1
  where
    first :
        (s : Signal) (l : Level) → is_parent l ≡ false → not (is_parent_signal s) ≡ true →
        is_parent (level_after_one s l) ≡ false
    first s l h g = grind arith

pub low-has_no_parent_signal :
    (ss : List Signal) → has_no_notice ss ≡ true → has_no_parent_signal ss ≡ true
low-has_no_parent_signal [] g = refl
low-has_no_parent_signal (s ∷ ss) g = and_from (not (is_parent_signal s)) (has_no_parent_signal ss) (one s (and_parts (is_no_notice s) (has_no_notice ss) g).0) (low-has_no_parent_signal ss (and_parts (is_no_notice s) (has_no_notice ss) g).1)
  where
    one : (s : Signal) → is_no_notice s ≡ true → not (is_parent_signal s) ≡ true
    one s h = grind arith

-- where the level becomes Reset, a Reset was among the signals
pub level_after-reset :
    (l : Level) (ss : List Signal) → level_after l ss ≡ level.Reset → (l ≡ level.Reset → ⊥) →
    has_reset ss ≡ true
level_after-reset l [] h g = absurd (g h)
level_after-reset l (s ∷ ss) h g = go (is_reset s) refl (level_after-reset (level_after_one s l) ss h)
  where
    keeps :
        (s : Signal) (l : Level) → (l ≡ level.Reset → ⊥) → is_reset s ≡ false →
        level_after_one s l ≡ level.Reset → ⊥
    keeps s l g e h = grind arith

    go :
        (b : Bool) → is_reset s ≡ b →
        ((level_after_one s l ≡ level.Reset → ⊥) → has_reset ss ≡ true) →
        (is_reset s || has_reset ss) ≡ true
    go true e ih = rw e refl
    go false e ih = rw e (ih (keeps s l g e))

-- ---- ages

pub AllAsOldAs-zero : (ts : List Travelling) → AllAsOldAs 0 ts
AllAsOldAs-zero [] = tt
AllAsOldAs-zero (t ∷ ts) = (omega arith, AllAsOldAs-zero ts)

pub AllAsOldAs-less : (a b : ℕ) (ts : List Travelling) → a ≤ b → AllAsOldAs b ts → AllAsOldAs a ts
AllAsOldAs-less a b [] h g = tt
AllAsOldAs-less a b (t ∷ ts) h g = (le_trans h g.0, AllAsOldAs-less a b ts h g.1)

pub AllAsOldAs-older :
    (b : ℕ) (ts : List Travelling) → AllAsOldAs b ts → AllAsOldAs (b + 1) (map age_signal ts)
AllAsOldAs-older b [] g = tt
AllAsOldAs-older b (t ∷ ts) g = (omega (arith, g.0), AllAsOldAs-older b ts g.1)

-- old and young at once: nothing
pub nothing-left :
    (d : ℕ) (ts : List Travelling) → 1 ≤ d → AllAsOldAs d ts → AgesFall (d - 1) ts → ts ≡ []
nothing-left d [] o g h = refl
nothing-left d (t ∷ ts) o g h = absurd (clash t.age g.0 h.0)
  where
    clash : (a : ℕ) → d ≤ a → a ≤ d - 1 → ⊥
    clash a g h = omega (arith, o, g, h)

-- the age of a Reset
pub reset-age :
    (most least : ℕ) (ts : List Travelling) → has_reset (signals_of ts) ≡ true →
    AllAsOldAs least ts → AgesFall most ts → least ≤ most
reset-age most least [] a g h = absurd cc
reset-age most least (t ∷ ts) a g h = le_trans g.0 h.0

-- ---- none takes a Parent back

pub NoneTakesBack-append :
    (b : ℕ) (l : Level) (xs ys : List Travelling) → NoneTakesBack b l xs →
    NoneTakesBack b (level_after l (signals_of xs)) ys → NoneTakesBack b l (xs ++ ys)
NoneTakesBack-append b l [] ys f g = g
NoneTakesBack-append b l (x ∷ xs) ys f g = (f.0, NoneTakesBack-append b (level_after_one x.signal l) xs ys f.1 g)

pub NoneTakesBack-older :
    (b c : ℕ) (l : Level) (ts : List Travelling) → c ≤ b + 1 → NoneTakesBack b l ts →
    NoneTakesBack c l (map age_signal ts)
NoneTakesBack-older b c l [] h f = tt
NoneTakesBack-older b c l (t ∷ ts) h f = (λ a e. f.0 (omega (arith, h, a)) e, NoneTakesBack-older b c (level_after_one t.signal l) ts h f.1)

pub NoneTakesBack-zero : (l : Level) (ts : List Travelling) → NoneTakesBack 0 l ts
NoneTakesBack-zero l [] = tt
NoneTakesBack-zero l (t ∷ ts) = (λ a e. absurd (omega (arith, a)), NoneTakesBack-zero (level_after_one t.signal l) ts)

pub NoneTakesBack-has_no_takeback :
    (b : ℕ) (l : Level) (ss : List Signal) → has_no_takeback ss ≡ true →
    NoneTakesBack b l (map new_signal ss)
NoneTakesBack-has_no_takeback b l [] h = tt
NoneTakesBack-has_no_takeback b l (s ∷ ss) h =
    (λ a e. not-true (takes_back s) (and_parts (not (takes_back s)) (has_no_takeback ss) h).0, NoneTakesBack-has_no_takeback b (level_after_one s l) ss (and_parts (not (takes_back s)) (has_no_takeback ss) h).1)

pub NoneTakesBack-has_no_parent_signal :
    (b : ℕ) (l : Level) (ss : List Signal) → (l ≡ level.Parent → ⊥) →
    has_no_parent_signal ss ≡ true → NoneTakesBack b l (map new_signal ss)
NoneTakesBack-has_no_parent_signal b l [] g h = tt
NoneTakesBack-has_no_parent_signal b l (s ∷ ss) g h = (
  λ a e. absurd (g e),
  NoneTakesBack-has_no_parent_signal b (level_after_one s l) ss (keeps s l g (and_parts (not (is_parent_signal s)) (has_no_parent_signal ss) h).0) (and_parts (not (is_parent_signal s)) (has_no_parent_signal ss) h).1,
)
  where
    keeps :
        (s : Signal) (l : Level) → (l ≡ level.Parent → ⊥) → not (is_parent_signal s) ≡ true →
        level_after_one s l ≡ level.Parent → ⊥
    keeps s l g h e = grind arith

-- all young, and no Reset: a Parent isn't taken back
pub parent-stays :
    (b most : ℕ) (ts : List Travelling) → most < b → AgesFall most ts →
    has_reset (signals_of ts) ≡ false → NoneTakesBack b level.Parent ts →
    level_after level.Parent (signals_of ts) ≡ level.Parent
parent-stays b most [] h g r n = refl
parent-stays b most (t ∷ ts) h g r n =
    let f : takes_back t.signal ≡ false = n.0 (omega (arith, g.0, h)) refl in
    let m : level_after_one t.signal level.Parent ≡ level.Parent = still t.signal f (or_parts (is_reset t.signal) (has_reset (signals_of ts)) r).0 in
    ap (λ l. level_after l (signals_of ts)) m
    ∙ parent-stays b t.age ts (omega (arith, g.0, h)) g.1 (or_parts (is_reset t.signal) (has_reset (signals_of ts)) r).1 (subst (λ l. NoneTakesBack b l ts) m n.1)
  where
    still :
        (s : Signal) → takes_back s ≡ false → is_reset s ≡ false →
        level_after_one s level.Parent ≡ level.Parent
    still s f r = grind arith

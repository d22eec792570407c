-- Lists of signals: their messages, and whether they may come.
use Rattle.std.proofs.Common.{◌≡◌, ℕ, suc, ◌+◌, ◌-◌, ◌<◌, ◌≤◌, Bool, true, false, not, ◌||◌, List, [], ◌∷◌, ◌++◌, map, length, inl, inr, refl, sym, ◌∙◌, ap, subst, arith, true≢false, if◌then◌else◌, append-nil, le_trans, length-append}
use Rattle.std.specs.Prelude.{nat_lt}
use Rattle.std.proofs.Math.Bool.{or_assoc, or-true}
use Rattle.std.proofs.lemmas.Bool.{and_from, and_parts, or_from, or_parts, or_cases, false_from_ne_true}
use Rattle.std.proofs.lemmas.List.{append_assoc}
use Rattle.outcomes.proofs.Common.{contrary, Signal, with_packet, Travelling, age_signal, new_signal, signals_of, is_message, silent, quads_in, is_grant, has_grant, is_done, has_done, kept, MessagesSince, Mode, allows, next, fits}
use Rattle.port_state.specs.declared.signal.Signal.TheVariants as signal
use Rattle.cable_world.specs.Lawful.{AgesFall}
use Rattle.outcomes.specs.Messages as mode

-- ---- one after the other

pub silent-append :
    (xs ys : List Signal) → silent xs ≡ true → silent ys ≡ true → silent (xs ++ ys) ≡ true
silent-append [] ys h g = g
silent-append (x ∷ xs) ys h g =
    let b = and_parts (not (is_message x)) (silent xs) h in
    and_from _ _ b.0 (silent-append xs ys b.1 g)

pub quads-append : (xs ys : List Signal) → quads_in (xs ++ ys) ≡ quads_in xs ++ quads_in ys
quads-append [] ys = refl
quads-append (signal.Packet quad ∷ xs) ys = ap (λ r. quad ∷ r) (quads-append xs ys)
quads-append (signal.Reset ∷ xs) ys = quads-append xs ys
quads-append (signal.Idle ∷ xs) ys = quads-append xs ys
quads-append (signal.Parent ∷ xs) ys = quads-append xs ys
quads-append (signal.Child ∷ xs) ys = quads-append xs ys
quads-append (signal.Grant ∷ xs) ys = quads-append xs ys
quads-append (signal.Done ∷ xs) ys = quads-append xs ys

pub kept-append : (list xs ys : List ℕ) → kept list (xs ++ ys) ≡ kept (kept list xs) ys
kept-append list [] ys = refl
kept-append list (x ∷ xs) ys = kept-append (with_packet x list) xs ys

-- ---- no message

pub silent-quads : (ss : List Signal) → silent ss ≡ true → quads_in ss ≡ []
silent-quads [] h = refl
silent-quads (signal.Reset ∷ ss) h = silent-quads ss h
silent-quads (signal.Idle ∷ ss) h = silent-quads ss h
silent-quads (signal.Parent ∷ ss) h = silent-quads ss h
silent-quads (signal.Child ∷ ss) h = silent-quads ss h
silent-quads (s ∷ ss) h = absurd cc

pub silent-end : (xs ys : List Signal) → silent (xs ++ ys) ≡ true → silent ys ≡ true
silent-end [] ys e = e
silent-end (s ∷ xs) ys e =
    silent-end xs ys (and_parts (not (is_message s)) (silent (xs ++ ys)) e).1

-- a level may always come, and changes nothing
pub level-quads :
    (s : Signal) (ss : List Signal) → is_message s ≡ false → quads_in (s ∷ ss) ≡ quads_in ss
level-quads signal.Reset ss h = refl
level-quads signal.Idle ss h = refl
level-quads signal.Parent ss h = refl
level-quads signal.Child ss h = refl
level-quads s ss h = absurd (true≢false h)

pub level-allowed : (m : Mode) (s : Signal) → is_message s ≡ false → allows m s ≡ true
level-allowed m s h = grind arith

pub level-next : (m : Mode) (s : Signal) → is_message s ≡ false → next m s ≡ m
level-next m s h = grind arith

pub silent-fits : (m : Mode) (ss : List Signal) → silent ss ≡ true → fits m ss ≡ true
silent-fits m [] h = refl
silent-fits m (s ∷ ss) h =
    let b = and_parts (not (is_message s)) (silent ss) h in
    let l : is_message s ≡ false = level s b.0 in
    and_from _ _ (level-allowed m s l) (rw (level-next m s l) (silent-fits m ss b.1))
  where
    level : (s : Signal) → not (is_message s) ≡ true → is_message s ≡ false
    level s h = grind arith

pub shut-silent : (ss : List Signal) → fits mode.shut ss ≡ true → silent ss ≡ true
shut-silent [] h = refl
shut-silent (s ∷ ss) h =
    let b = and_parts (allows mode.shut s) (fits mode.shut ss) h in
    and_from _ _ (level s b.0) (shut-silent ss b.1)
  where
    level : (s : Signal) → allows mode.shut s ≡ true → not (is_message s) ≡ true
    level s h = grind arith

-- ---- what may come

-- what may come behind these
pub nexts : Mode → List Signal → Mode
nexts m [] = m
nexts m (s ∷ ss) = nexts (next m s) ss

pub fits-add :
    (m : Mode) (xs ys : List Signal) → fits m xs ≡ true → fits (nexts m xs) ys ≡ true →
    fits m (xs ++ ys) ≡ true
unfolding nexts
fits-add m [] ys h g = g
fits-add m (x ∷ xs) ys h g =
    let b = and_parts (allows m x) (fits (next m x) xs) h in
    and_from _ _ b.0 (fits-add (next m x) xs ys b.1 g)

pub fits-silent :
    (m : Mode) (xs ys : List Signal) → fits m xs ≡ true → silent ys ≡ true → fits m (xs ++ ys)
    ≡ true
fits-silent m xs ys h g = fits-add m xs ys h (silent-fits (nexts m xs) ys g)

pub nexts-packets : (ss : List Signal) → nexts mode.packets ss ≡ mode.packets
unfolding nexts
nexts-packets [] = refl
nexts-packets (s ∷ ss) = nexts-packets ss

-- ---- Grant, and Done

-- A kind of message: the signals of a test, and the lists that have one; it is said by `one` where
-- a mode allows none of it.
pub record IsKind (one : Signal) (test : Signal → Bool) (has : List Signal → Bool) : Type 0 where
  pub empty : has [] ≡ false
  pub more : (s : Signal) (ss : List Signal) → has (s ∷ ss) ≡ (test s || has ss)
  pub message : (s : Signal) → test s ≡ true → is_message s ≡ true
  pub no_packet : (s : Signal) (ss : List Signal) → test s ≡ true → quads_in (s ∷ ss) ≡ quads_in ss
  -- behind one of it nothing may come
  pub last : (m : Mode) (s : Signal) → test s ≡ true → allows m s ≡ true → next m s ≡ mode.shut
  -- where none may come none does, and none may then
  pub barred :
      (m : Mode) (s : Signal) → allows m one ≡ false → allows m s ≡ true →
      (test s ≡ false) × (allows (next m s) one ≡ false)

pub grants : IsKind signal.Grant is_grant has_grant
grants = record {
  empty = refl;
  more = λ s ss. refl;
  message = λ s e. grind arith;
  no_packet = λ s ss e. grind arith;
  last = λ m s e a. grind arith;
  barred = λ m s a b. (grind arith, grind arith);
}

pub dones : IsKind signal.Done is_done has_done
dones = record {
  empty = refl;
  more = λ s ss. refl;
  message = λ s e. grind arith;
  no_packet = λ s ss e. grind arith;
  last = λ m s e a. grind arith;
  barred = λ m s a b. (grind arith, grind arith);
}

module _
    {one : Signal} {test : Signal → Bool} {has : List Signal → Bool}
    (kind : IsKind one test has) where
  pub has-first : (s : Signal) (ss : List Signal) → test s ≡ true → has (s ∷ ss) ≡ true
  has-first s ss e = kind.more s ss ∙ ap (λ b. b || has ss) e

  pub has-rest : (s : Signal) (ss : List Signal) → has ss ≡ true → has (s ∷ ss) ≡ true
  has-rest s ss e = kind.more s ss ∙ ap (λ b. test s || b) e ∙ or-true (test s)

  pub has-append : (xs ys : List Signal) → has (xs ++ ys) ≡ (has xs || has ys)
  has-append [] ys = ap (λ b. b || has ys) (sym kind.empty)
  has-append (x ∷ xs) ys =
      kind.more x (xs ++ ys) ∙ ap (λ b. test x || b) (has-append xs ys)
      ∙ sym (or_assoc (test x) (has xs) (has ys)) ∙ ap (λ b. b || has ys) (sym (kind.more x xs))

  pub level-has :
      (s : Signal) (ss : List Signal) → is_message s ≡ false → has (s ∷ ss) ≡ has ss
  level-has s ss h =
      kind.more s ss
      ∙ ap (λ b. b || has ss) (false_from_ne_true (test s) (λ e. contrary (kind.message s e) h))

  pub silent-has : (ss : List Signal) → silent ss ≡ true → has ss ≡ false
  silent-has [] h = kind.empty
  silent-has (s ∷ ss) h =
      let b = and_parts (not (is_message s)) (silent ss) h in
      let off = false_from_ne_true (test s) (λ e. contrary b.0 (ap not (kind.message s e))) in
      kind.more s ss ∙ or_from (test s) (has ss) off (silent-has ss b.1)

  pub none-comes :
      (m : Mode) (ss : List Signal) → allows m one ≡ false → fits m ss ≡ true → has ss ≡ false
  none-comes m [] a h = kind.empty
  none-comes m (s ∷ ss) a h =
      let b = and_parts (allows m s) (fits (next m s) ss) h in
      let o = kind.barred m s a b.0 in
      kind.more s ss ∙ or_from (test s) (has ss) o.0 (none-comes (next m s) ss o.1 b.1)

  -- behind one of it no message comes
  pub after-one :
      (m : Mode) (s : Signal) (ss : List Signal) → test s ≡ true → fits m (s ∷ ss) ≡ true →
      silent ss ≡ true
  after-one m s ss e h =
      let b = and_parts (allows m s) (fits (next m s) ss) h in
      shut-silent ss (subst (λ n. fits n ss ≡ true) (kind.last m s e b.0) b.1)

  pub behind :
      (m : Mode) (xs ys : List Signal) → fits m (xs ++ ys) ≡ true → has xs ≡ true →
      silent ys ≡ true
  behind m [] ys f t = contrary t kind.empty
  behind m (s ∷ xs) ys f t = elim (or_cases (test s) (has xs) (sym (kind.more s xs) ∙ t)) [
    | inl o ↦ silent-end xs ys (after-one m s (xs ++ ys) o f)
    | inr o ↦ behind (next m s) xs ys (and_parts (allows m s) (fits (next m s) (xs ++ ys)) f).1 o
  ]

  -- without one of it a mode that changes by it alone stays
  nexts-same :
      (m : Mode) → ((s : Signal) → test s ≡ false → next m s ≡ m) → (ss : List Signal) →
      has ss ≡ false → nexts m ss ≡ m
  unfolding nexts
  nexts-same m same [] h = refl
  nexts-same m same (s ∷ ss) h =
      let b = or_parts (test s) (has ss) (sym (kind.more s ss) ∙ h) in
      rw (same s b.0) (nexts-same m same ss b.1)

pub nexts-grant : (ss : List Signal) → has_grant ss ≡ false → nexts mode.grant ss ≡ mode.grant
nexts-grant = nexts-same grants mode.grant (λ s h. grind arith)

pub nexts-done : (ss : List Signal) → has_done ss ≡ false → nexts mode.done ss ≡ mode.done
nexts-done = nexts-same dones mode.done (λ s h. grind arith)

-- ---- packets

-- where there is room all are kept
pub kept-room :
    (list quads : List ℕ) → length list + length quads ≤ 252 → kept list quads ≡ list ++ quads
kept-room list [] h = sym (append-nil list)
kept-room list (q ∷ qs) h =
    go (nat_lt (length list) 252) refl (λ r. kept-room (list ++ q ∷ []) qs r)
  where
    full : (n m : ℕ) → nat_lt n 252 ≡ false → n + suc m ≤ 252 → ⊥
    full n m e h = grind arith

    go :
        (b : Bool) → nat_lt (length list) 252 ≡ b →
        (length (list ++ q ∷ []) + length qs ≤ 252 →
        kept (list ++ q ∷ []) qs ≡ (list ++ q ∷ []) ++ qs)
        → kept (if b then list ++ q ∷ [] else list) qs ≡ list ++ q ∷ qs
    go true e rest =
        rest (omega (arith, length-append list (q ∷ []), h)) ∙ append_assoc list (q ∷ []) qs
    go false e rest = absurd (full (length list) (length qs) e h)

-- ---- ages

pub since-zero : (ts : List Travelling) → MessagesSince 0 ts
since-zero [] = tt
since-zero (t ∷ ts) = (λ m. omega arith, since-zero ts)

pub since-less : (a b : ℕ) (ts : List Travelling) → a ≤ b → MessagesSince b ts → MessagesSince a ts
since-less a b [] h g = tt
since-less a b (t ∷ ts) h g = (λ m. le_trans h (g.0 m), since-less a b ts h g.1)

pub since-older :
    (b : ℕ) (ts : List Travelling) → MessagesSince b ts → MessagesSince (b + 1) (map age_signal ts)
since-older b [] g = tt
since-older b (t ∷ ts) g = (λ m. omega (arith, g.0 m), since-older b ts g.1)

pub since-append :
    (b : ℕ) (ts us : List Travelling) → MessagesSince b ts → MessagesSince b us →
    MessagesSince b (ts ++ us)
since-append b [] us h g = g
since-append b (t ∷ ts) us h g = (h.0, since-append b ts us h.1 g)

pub since-silent :
    (b : ℕ) (ss : List Signal) → silent ss ≡ true → MessagesSince b (map new_signal ss)
since-silent b [] h = tt
since-silent b (s ∷ ss) h =
    let p = and_parts (not (is_message s)) (silent ss) h in
    (λ m. absurd (clash (is_message s) m p.0), since-silent b ss p.1)
  where
    clash : (b : Bool) → b ≡ true → not b ≡ true → ⊥
    clash b h g = grind arith

-- old and young at once: no message
pub since-none :
    (d : ℕ) (ts : List Travelling) → 1 ≤ d → MessagesSince d ts → AgesFall (d - 1) ts →
    silent (signals_of ts) ≡ true
since-none d ts o g h = go (d - 1) ts (omega (arith, o)) g h
  where
    go :
        (most : ℕ) (ts : List Travelling) → most < d → MessagesSince d ts → AgesFall most ts →
        silent (signals_of ts) ≡ true
    go most [] l g h = refl
    go most (t ∷ ts) l g h =
        and_from _ _ (level (is_message t.signal) refl)
        (go t.age ts (omega (arith, l, h.0)) g.1 h.1)
      where
        level : (b : Bool) → is_message t.signal ≡ b → not b ≡ true
        level true e = absurd (omega (arith, l, h.0, g.0 e))
        level false e = refl

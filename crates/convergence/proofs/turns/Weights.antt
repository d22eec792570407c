-- What T1 and a parent port weigh: a tick of a node past T0 makes it no heavier, and it gets
-- lighter where it leaves T1.
use Rattle.std.proofs.Common.{◌≡◌, ◌⊎◌, inl, inr, ℕ, zero, suc, ◌+◌, ◌*◌, ◌<◌, ◌≤◌, Bool, true, false, ◌&&◌, cond, List, [], ◌∷◌, Option, Some, None, is_some, slice_get, refl, sym, ◌∙◌, ap, subst, arith, true≢false, if◌then◌else◌}
use Rattle.std.proofs.lemmas.Bool.{cases_eq}
use Rattle.convergence.proofs.Common.{on_beat, Level, Phase, PortView, NodeState, hears_packets, is_idle, is_parent, is_child, passes, port_is, every, is_connected, is_port, Row, raise_timer, row_of, does, next_row, tick, is_before_tree, shown_or_idle, level_shown, leads_down, Chosen, chosen, contrary}
use Rattle.port_state.specs.declared.signal.Phase.TheVariants as phase
use Rattle.port_state.specs.TreeIdentify.{parent_shake_at}
use Rattle.port_state.specs.Row as row
use Rattle.cable_world.proofs.Lemmas.{elsewhere, port-is}
use Rattle.convergence.proofs.turns.Moves.{all_idle, tick-child-shake}

-- ---- weights

abbrev pub is_child_shake : Phase → Bool
is_child_shake phase.ChildShake = true
is_child_shake f = false

abbrev pub weigh : Phase → Option ℕ → ℕ
weigh f o = cond (is_child_shake f) 1 0 + cond (is_some o) 2 0

abbrev pub weight : NodeState → ℕ
weight x = weigh x.view.phase x.view.parent

pub weigh-most : (f : Phase) (o : Option ℕ) → weigh f o ≤ 3
weigh-most f o = go (is_child_shake f) (is_some o)
  where
    go : (b c : Bool) → cond b 1 0 + cond c 2 0 ≤ 3
    go b c = grind arith

pub is-child-shake : (f : Phase) → is_child_shake f ≡ true → f ≡ phase.ChildShake
is-child-shake phase.ChildShake h = refl
is-child-shake f h = absurd (true≢false (sym h))

-- a node in T1 that weighs as much as before is in T1
pub still-shakes :
    (f : Phase) (o p : Option ℕ) → weigh f o ≡ weigh phase.ChildShake p → f ≡ phase.ChildShake
still-shakes f o p h = is-child-shake f (go (is_child_shake f) (is_some o) (is_some p) h)
  where
    go : (b c e : Bool) → cond b 1 0 + cond c 2 0 ≡ 1 + cond e 2 0 → b ≡ true
    go true c e h = refl
    go false true true h = absurd (omega (arith, h))
    go false true false h = absurd (omega (arith, h))
    go false false true h = absurd (omega (arith, h))
    go false false false h = absurd (omega (arith, h))

early-late : (f g : Phase) → f ≡ g → is_before_tree g ≡ true → is_before_tree f ≡ false → ⊥
early-late f g e h l = contrary (ap is_before_tree e ∙ h) l

row-weight :
    (coin : Bool) (r : Row) (x : NodeState) → Chosen r x → is_before_tree x.view.phase ≡ false →
    weight (does coin r x).state ≤ weight x
row-weight coin row.none x c l = omega arith
row-weight coin row.ends_reset x c l = absurd (early-late x.view.phase phase.ResetStart c.0 refl l)
row-weight coin row.begins_tree x c l = absurd (early-late x.view.phase phase.ResetWait c.0 refl l)
row-weight coin row.takes_roles x c l = absurd (early-late x.view.phase phase.TreeStart c.0 refl l)
row-weight coin row.times_out x c l = omega arith
row-weight coin row.awaits_parent x c l = omega arith
row-weight coin row.becomes_root x c l = omega arith
row-weight coin (row.finds_parent p) x c l = omega arith
row-weight coin (row.begins_contention p) x c l = omega arith
row-weight coin (row.takes_rival p) x c l = let some : ◌≡◌ {A = ℕ} (cond (is_some x.view.parent) 2 0) 2 = ap (λ o. cond (is_some o) 2 0) c.1 in omega (arith, some)
row-weight coin (row.asks_again p) x c l = omega arith
row-weight coin (row.asks_child p) x c l = omega arith
row-weight coin row.names_itself x c l = omega arith

pub tick-weight :
    (coin : Bool) (x : NodeState) → is_before_tree x.view.phase ≡ false →
    weight (tick coin x).state ≤ weight x
unfolding tick
tick-weight coin x l = row-weight coin (next_row x) (raise_timer x) (chosen x.view.phase (raise_timer x) refl) l

pub beat-weight :
    (b : Option Bool) (x : NodeState) → is_before_tree x.view.phase ≡ false →
    weight (on_beat b x).state ≤ weight x
beat-weight None x l = omega arith
beat-weight (Some coin) x l = tick-weight coin x l

-- ---- where T1 and T2 come from

child-shake-by :
    (coin : Bool) (r : Row) (x : NodeState) → Chosen r x →
    (does coin r x).state.view.phase ≡ phase.ChildShake → (x.view.phase ≡ phase.ChildShake)
    ⊎ ((x.view.phase ≡ phase.TreeStart) ⊎ (x.view.phase ≡ phase.Contend))
child-shake-by coin row.none x c h = inl h
child-shake-by coin row.takes_roles x c h = inr (inl c.0)
child-shake-by coin row.times_out x c h = inl h
child-shake-by coin (row.takes_rival p) x c h = inr (inr c.0)
child-shake-by coin (row.asks_child p) x c h = inl h
child-shake-by coin r x c h = absurd cc

pub tick-child-shake-by :
    (coin : Bool) (x : NodeState) → (tick coin x).state.view.phase ≡ phase.ChildShake →
    (x.view.phase ≡ phase.ChildShake)
    ⊎ ((x.view.phase ≡ phase.TreeStart) ⊎ (x.view.phase ≡ phase.Contend))
unfolding tick
tick-child-shake-by coin x h = child-shake-by coin (next_row x) (raise_timer x) (chosen x.view.phase (raise_timer x) refl) h

parent-shake-by :
    (coin : Bool) (r : Row) (x : NodeState) → Chosen r x →
    (does coin r x).state.view.phase ≡ phase.ParentShake → (x.view.phase ≡ phase.ParentShake)
    ⊎ ((x.view.phase ≡ phase.ChildShake) ⊎ (x.view.phase ≡ phase.Contend))
parent-shake-by coin row.none x c h = inl h
parent-shake-by coin row.awaits_parent x c h = inr (inl c)
parent-shake-by coin row.times_out x c h = inl h
parent-shake-by coin (row.asks_again p) x c h = inr (inr c.0)
parent-shake-by coin (row.asks_child p) x c h = inl h
parent-shake-by coin r x c h = absurd cc

pub tick-parent-shake-by :
    (coin : Bool) (x : NodeState) → (tick coin x).state.view.phase ≡ phase.ParentShake →
    (x.view.phase ≡ phase.ParentShake)
    ⊎ ((x.view.phase ≡ phase.ChildShake) ⊎ (x.view.phase ≡ phase.Contend))
unfolding tick
tick-parent-shake-by coin x h = parent-shake-by coin (next_row x) (raise_timer x) (chosen x.view.phase (raise_timer x) refl) h

pub beat-child-shake-by :
    (b : Option Bool) (x : NodeState) → (on_beat b x).state.view.phase ≡ phase.ChildShake →
    (x.view.phase ≡ phase.ChildShake)
    ⊎ ((x.view.phase ≡ phase.TreeStart) ⊎ (x.view.phase ≡ phase.Contend))
beat-child-shake-by None x h = inl h
beat-child-shake-by (Some coin) x h = tick-child-shake-by coin x h

pub beat-parent-shake-by :
    (b : Option Bool) (x : NodeState) → (on_beat b x).state.view.phase ≡ phase.ParentShake →
    (x.view.phase ≡ phase.ParentShake)
    ⊎ ((x.view.phase ≡ phase.ChildShake) ⊎ (x.view.phase ≡ phase.Contend))
beat-parent-shake-by None x h = inl h
beat-parent-shake-by (Some coin) x h = tick-parent-shake-by coin x h

-- ---- T2

port-shows :
    (test : Level → Bool) (x : NodeState) (k : ℕ) → is_connected x.view.ports k ≡ true →
    test (level_shown x k) ≡ true → port_is (λ q. test q.shown) x.view.ports k ≡ true
port-shows test x k on h = go (slice_get x.view.ports k) on h
  where
    go :
        (o : Option PortView) → passes (λ q. q.connected) o ≡ true → test (shown_or_idle o) ≡ true →
        passes (λ q. test q.shown) o ≡ true
    go None e h = absurd (true≢false (sym e))
    go (Some q) e h = h

-- a node in T2 whose parent port shows Child goes on
pub tick-accepted :
    (coin : Bool) (x : NodeState) (k : ℕ) → x.view.phase ≡ phase.ParentShake →
    is_port x.view.parent k ≡ true → is_connected x.view.ports k ≡ true → is_child (level_shown x k)
    ≡ true → (tick coin x).state.view.phase ≡ phase.SelfIdent
unfolding tick
tick-accepted coin x k c u on s =
    subst (λ f. (does coin (row_of f (raise_timer x)) (raise_timer x)).state.view.phase ≡ phase.SelfIdent) (sym c)
    (subst (λ o. (does coin (parent_shake_at o (raise_timer x)) (raise_timer x)).state.view.phase ≡ phase.SelfIdent) (sym (port-is x.view.parent k u))
    (subst (λ b. (does coin (if b then row.finds_parent k else (if port_is (λ p. is_parent p.shown) x.view.ports k then row.begins_contention k else row.none)) (raise_timer x)).state.view.phase ≡ phase.SelfIdent) (sym (port-shows is_child x k on s)) refl))

-- ---- T1

-- a child port that isn't idle
pub record Busy (x : NodeState) : Type 0 where
  pub port : ℕ
  pub on : is_connected x.view.ports port ≡ true
  pub child : leads_down x.view.ports port ≡ true
  pub busy : is_idle (level_shown x port) ≡ false

pub some-busy : (x : NodeState) → all_idle x ≡ false → Busy x
some-busy x h = let r = go x.view.ports h in record { port = r.0; on = r.1; child = r.2; busy = r.3 }
  where
    Found : List PortView → Type 0
    Found ps = (k : ℕ) × (is_connected ps k ≡ true) × (leads_down ps k ≡ true) × (is_idle (shown_or_idle (slice_get ps k)) ≡ false)

    first :
        (p : PortView) (ps : List PortView) (b c : Bool) → p.connected ≡ b → p.child ≡ c →
        (if b then (if c then is_idle p.shown else true) else true) ≡ false → Found (p ∷ ps)
    first p ps true true e f h = (0, e, f, h)
    first p ps true false e f h = absurd (true≢false h)
    first p ps false c e f h = absurd (true≢false h)

    go :
        (ps : List PortView) → every (λ p. if p.child then is_idle p.shown else true) ps ≡ false →
        Found ps
    go [] h = absurd (true≢false h)
    go (p ∷ ps) h = two (if p.connected then (if p.child then is_idle p.shown else true) else true) refl h (go ps)
      where
        two :
            (b : Bool) → (if p.connected then (if p.child then is_idle p.shown else true) else true)
            ≡ b → (b && every (λ p. if p.child then is_idle p.shown else true) ps) ≡ false →
            (every (λ p. if p.child then is_idle p.shown else true) ps ≡ false → Found ps) →
            Found (p ∷ ps)
        two false e h rest = first p ps p.connected p.child refl refl e
        two true e h rest = let r = rest h in (suc r.0, r.1, r.2, r.3)

-- ---- sums

abbrev pub total : (ℕ → ℕ) → ℕ → ℕ
total f zero = 0
total f (suc n) = total f n + f n

pub total-most : (f : ℕ → ℕ) (m n : ℕ) → ((k : ℕ) → f k ≤ m) → total f n ≤ m * n
total-most f m zero h = omega arith
total-most f m (suc n) h = let z : m * suc n ≡ m * n + m = grind arith in omega (arith, z, h n, total-most f m n h)

module _ (f g : ℕ → ℕ) (less : (k : ℕ) → f k ≤ g k) where
  pub total-le : (n : ℕ) → total f n ≤ total g n
  total-le zero = omega arith
  total-le (suc n) = omega (arith, less n, total-le n)

  pub total-less : (n j : ℕ) → j < n → f j + 1 ≤ g j → total f n + 1 ≤ total g n
  total-less zero j h s = absurd (omega (arith, h))
  total-less (suc n) j h s = go (total-less n j)
    where
      go :
          (j < n → f j + 1 ≤ g j → total f n + 1 ≤ total g n) →
          total f n + f n + 1 ≤ total g n + g n
      go before = elim (cases_eq j n) [
        | inl same ↦ omega (arith, total-le n, ap f same, ap g same, s)
        | inr ne ↦ omega (arith, before (omega (arith, h, ne)) s, less n)
      ]

-- ---- past tree identify

identifying-on :
    (coin : Bool) (r : Row) (x : NodeState) → Chosen r x → hears_packets x.view.phase ≡ true →
    hears_packets (does coin r x).state.view.phase ≡ true
identifying-on coin row.none x c h = h
identifying-on coin row.ends_reset x c h = absurd (elsewhere hears_packets c.0 refl h)
identifying-on coin row.begins_tree x c h = absurd (elsewhere hears_packets c.0 refl h)
identifying-on coin row.takes_roles x c h = absurd (elsewhere hears_packets c.0 refl h)
identifying-on coin row.times_out x c h = h
identifying-on coin row.awaits_parent x c h = absurd (elsewhere hears_packets c refl h)
identifying-on coin row.becomes_root x c h = refl
identifying-on coin (row.finds_parent p) x c h = refl
identifying-on coin (row.begins_contention p) x c h = absurd (elsewhere hears_packets c.0 refl h)
identifying-on coin (row.takes_rival p) x c h = absurd (elsewhere hears_packets c.0 refl h)
identifying-on coin (row.asks_again p) x c h = absurd (elsewhere hears_packets c.0 refl h)
identifying-on coin (row.asks_child p) x c h = h
identifying-on coin row.names_itself x c h = refl

pub tick-identifying :
    (coin : Bool) (x : NodeState) → hears_packets x.view.phase ≡ true →
    hears_packets (tick coin x).state.view.phase ≡ true
unfolding tick
tick-identifying coin x h = identifying-on coin (next_row x) (raise_timer x) (chosen x.view.phase (raise_timer x) refl) h

pub beat-identifying :
    (b : Option Bool) (x : NodeState) → hears_packets x.view.phase ≡ true →
    hears_packets (on_beat b x).state.view.phase ≡ true
beat-identifying None x h = h
beat-identifying (Some coin) x h = tick-identifying coin x h

-- a node in T2 with no parent port becomes root
pub tick-root :
    (coin : Bool) (x : NodeState) → x.view.phase ≡ phase.ParentShake → x.view.parent ≡ None →
    (tick coin x).state.view.phase ≡ phase.SelfIdent
unfolding tick
tick-root coin x c e =
    subst (λ f. (does coin (row_of f (raise_timer x)) (raise_timer x)).state.view.phase ≡ phase.SelfIdent) (sym c)
    (subst (λ o. (does coin (parent_shake_at o (raise_timer x)) (raise_timer x)).state.view.phase ≡ phase.SelfIdent) (sym e) refl)

-- one whose parent port shows Parent draws
pub tick-begins :
    (coin : Bool) (x : NodeState) (k : ℕ) → x.view.phase ≡ phase.ParentShake →
    is_port x.view.parent k ≡ true → is_connected x.view.ports k ≡ true →
    is_parent (level_shown x k) ≡ true → (tick coin x).state.view.phase ≡ phase.Contend
unfolding tick
tick-begins coin x k c u on s =
    let no : port_is (λ q. is_child q.shown) x.view.ports k ≡ false = not-child (slice_get x.view.ports k) s in
    subst (λ f. (does coin (row_of f (raise_timer x)) (raise_timer x)).state.view.phase ≡ phase.Contend) (sym c)
    (subst (λ o. (does coin (parent_shake_at o (raise_timer x)) (raise_timer x)).state.view.phase ≡ phase.Contend) (sym (port-is x.view.parent k u))
    (subst (λ b. (does coin (if b then row.finds_parent k else (if port_is (λ p. is_parent p.shown) x.view.ports k then row.begins_contention k else row.none)) (raise_timer x)).state.view.phase ≡ phase.Contend) (sym no)
    (subst (λ b. (does coin (if b then row.begins_contention k else row.none) (raise_timer x)).state.view.phase ≡ phase.Contend) (sym (port-shows is_parent x k on s)) refl)))
  where
    clash : (m : Level) → is_parent m ≡ true → is_child m ≡ false
    clash m h = grind arith

    not-child :
        (o : Option PortView) → is_parent (shown_or_idle o) ≡ true → passes (λ q. is_child q.shown)
        o ≡ false
    not-child None h = refl
    not-child (Some q) h = clash q.shown h

-- ---- or the clock misses the turn

pub beat-accepted :
    (b : Option Bool) (x : NodeState) (k : ℕ) → x.view.phase ≡ phase.ParentShake →
    is_port x.view.parent k ≡ true → is_connected x.view.ports k ≡ true → is_child (level_shown x k)
    ≡ true → (b ≡ None) ⊎ ((on_beat b x).state.view.phase ≡ phase.SelfIdent)
beat-accepted None x k c u on s = inl refl
beat-accepted (Some coin) x k c u on s = inr (tick-accepted coin x k c u on s)

pub beat-root :
    (b : Option Bool) (x : NodeState) → x.view.phase ≡ phase.ParentShake → x.view.parent ≡ None →
    (b ≡ None) ⊎ ((on_beat b x).state.view.phase ≡ phase.SelfIdent)
beat-root None x c e = inl refl
beat-root (Some coin) x c e = inr (tick-root coin x c e)

pub beat-begins :
    (b : Option Bool) (x : NodeState) (k : ℕ) → x.view.phase ≡ phase.ParentShake →
    is_port x.view.parent k ≡ true → is_connected x.view.ports k ≡ true →
    is_parent (level_shown x k) ≡ true →
    (b ≡ None) ⊎ ((on_beat b x).state.view.phase ≡ phase.Contend)
beat-begins None x k c u on s = inl refl
beat-begins (Some coin) x k c u on s = inr (tick-begins coin x k c u on s)

pub beat-goes-on :
    (b : Option Bool) (x : NodeState) → x.view.phase ≡ phase.ChildShake →
    (b ≡ None)
    ⊎ ((all_idle x ≡ false) ⊎ ((on_beat b x).state.view.phase ≡ phase.ParentShake))
beat-goes-on None x c = inl refl
beat-goes-on (Some coin) x c = inr (elim (tick-child-shake coin x c) [ inl a ↦ inr a.1 | inr a ↦ inl a.0 ])

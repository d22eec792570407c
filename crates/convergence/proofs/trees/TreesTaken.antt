-- In a component without loop, once timers are at their force time, some node leaves T0 within each
-- d turns: of the
-- nodes in T0 one has at most one cable to the others, as there is no loop, and all its other
-- neighbours ask it.
use Rattle.std.proofs.Common.{◌≡◌, ◌⊎◌, inl, inr, ℕ, zero, suc, ◌+◌, ◌-◌, ◌*◌, ◌^◌, ◌<◌, ◌≤◌, Bool, true, false, not, ◌&&◌, ◌||◌, ◌==◌, length, min, Option, Some, None, is_some, slice_get, refl, sym, ◌∙◌, ap, subst, arith, true≢false}
use Rattle.std.specs.Int.{bit_at}
use Rattle.std.proofs.lemmas.Bool.{eqb-true, eq-eqb, and_from, and_parts, false_from_ne_true}
use Rattle.std.proofs.lemmas.Option.{slice_get_within}
use Rattle.cable_world.specs.Times.{Suits}
use Rattle.cable_world.proofs.Lemmas.{after-longest}
use Rattle.convergence.proofs.Common.{Phase, PortView, NodeState, Timing, is_parent, passes, is_connected, is_port, raise_timer, IsValid, PortNode, End, Wiring, far, Holds, IsClosed, HasTwo, IsCore, end_at, CableWorld, wire_of, level_sent, level_shown, shown_or_idle, leads_down, level_sent_at, is_before_tree, is_shaking, is_asking, Coupling, IsLawful, after-delay, after-length, child-if, cable-connected, late-roles, tree_start-known, quiet-then, quiet-lawful, after-cabling, HoldSchedule, holds_after, quiet_after, ResetsAreDone, contrary}
use Rattle.port_state.specs.declared.signal.Phase.TheVariants as phase
use Rattle.cabling.specs.NodeSet.{IsWithin, IsEmpty}
use Rattle.cabling.specs.Looped.{LeadsInto}
use Rattle.cabling.proofs.Lemmas.{below, weak_or_all, plugged}
use Rattle.convergence.proofs.turns.CalmTurns.{heard_by}
use Rattle.convergence.proofs.turns.BeforeTree.{Left, TwoLeft, StaysInStart, undecided-two}
use Rattle.convergence.proofs.turns.Flush.{Tells, Shown, flush}
use Rattle.convergence.proofs.sets.Gathered.{Gathered, gathered, count, count-most, count-le, count-less, count-some, count-found}
use Rattle.convergence.proofs.trees.TreeStart.{IsEarly, Started, started, only-start, start-early, early-was, early-at-first, start-timer, done-at}
use Rattle.convergence.specs.Turns.{slack}
use Rattle.convergence.proofs.turns.TwoTurns.{Misses, not-missed}
use Rattle.port_state.specs.Clock.{misses}

-- ---- what neighbours that know their tree tell

asking-tells :
    (y : NodeState) (q : ℕ) → IsValid y → is_connected y.view.ports q ≡ true →
    is_before_tree y.view.phase ≡ false → (is_before_tree y.view.phase || is_asking y q) ≡ true →
    is_parent (level_sent_at y q) ≡ true
asking-tells y q v on late early = told y.view.phase (leads_down y.view.ports q) (is_port y.view.parent q) late (child-if y.view.parent y.view.ports q (late-roles y v late) on) early
  where
    told :
        (f : Phase) (c i : Bool) → is_before_tree f ≡ false → c ≡ not i →
        (is_before_tree f || (is_shaking f && i)) ≡ true → is_parent (level_sent f c) ≡ true
    told f c i a b e = grind arith

-- d turns after a neighbour of a node knew its tree, the node is shown Parent, if it is still in T0
module _
    (hs : HoldSchedule) (v : CableWorld) (l : IsLawful v) (done : ResetsAreDone v) (u p : ℕ) (a : End)
    (e : far v.cabling (end_at u p) ≡ Some a) (late : IsEarly v a.node → ⊥) where
  abbrev StillEarly : ℕ → Type 0
  StillEarly i = IsEarly (quiet_after hs i v) u

  back : far v.cabling a ≡ Some (end_at u p)
  back = l.well_formed.cabling.both_ways (end_at u p) a e

  tells-parent : (i : ℕ) → StillEarly i → Tells (quiet_after hs i v) a is_parent
  tells-parent i n y at =
      let w : CableWorld = quiet_after hs i v in
      let m : IsLawful w = quiet-lawful hs i v l in
      let there : far w.cabling (end_at u p) ≡ Some a = ap (λ (c : Wiring). far c (end_at u p)) (after-cabling hs i v) ∙ e in
      let here : far w.cabling a ≡ Some (end_at u p) = ap (λ (c : Wiring). far c a) (after-cabling hs i v) ∙ back in
      let c : Coupling w.delay n.node.state p (wire_of w (end_at u p)).signals y.state a.port (wire_of w a).signals = m.coupled.cables (end_at u p) a n.node y there n.at at in
      let start : n.node.state.view.phase ≡ phase.TreeStart = only-start n.node.state.view.phase n.early (done-at hs v l done i u n.node n.at) in
      asking-tells y.state a.port (m.well_formed.nodes a.node y at).valid (cable-connected w a (end_at u p) y m.well_formed here at) (out-of y at (is_before_tree y.state.view.phase) refl)
      (c.early (tree_start-known w.delay n.node.state start))
    where
      out-of :
          (y : PortNode) → slice_get (quiet_after hs i v).nodes a.node ≡ Some y → (b : Bool) →
          is_before_tree y.state.view.phase ≡ b → b ≡ false
      out-of y at false h = refl
      out-of y at true h = absurd (late (early-at-first hs v l done i a.node (record { node = y; at = at; early = h })))

  pub shown-parent :
      (i : ℕ) → v.delay ≤ i → StillEarly i → Shown (quiet_after hs i v) (end_at u p) is_parent
  shown-parent = flush hs v l a (end_at u p) back is_parent StillEarly (λ i n. early-was hs v l done i u n) tells-parent

-- ---- a node that stays in T0

-- a port of a node that shows no Parent
pub record Silent (y : NodeState) (p : ℕ) : Type 0 where
  pub on : is_connected y.view.ports p ≡ true
  pub silent : is_parent (level_shown y p) ≡ false

pub record TwoSilent (y : NodeState) : Type 0 where
  pub low : ℕ
  pub high : ℕ
  pub apart : low < high
  pub low_silent : Silent y low
  pub high_silent : Silent y high

module _ (hs : HoldSchedule) (v : CableWorld) (l : IsLawful v) (done : ResetsAreDone v) where
  ticked-by-two :
      (i k : ℕ) → v.longest.force ≤ i → (n : IsEarly (quiet_after hs (i + 1) v) k) →
      (s : Started hs v l done i k n.node) →
      StaysInStart (heard_by (quiet_after hs i v) k s.calm.node) n.node.state → TwoSilent n.node.state
  ticked-by-two i k old n s kept = record { low = two.low; high = two.high; apart = two.apart; low_silent = silent two.low two.low_left; high_silent = silent two.high two.high_left }
    where
      now : NodeState
      now = heard_by (quiet_after hs i v) k s.calm.node

      force : (raise_timer now).timing.force ≤ (raise_timer now).view.timer
      force =
          let fits : Suits (quiet_after hs i v).delay (quiet_after hs i v).longest s.calm.node.state.timing = ((quiet-lawful hs i v l).well_formed.nodes k s.calm.node s.calm.at).timing in
          let same : (quiet_after hs i v).longest.force ≡ v.longest.force = ap (λ (t : Timing). t.force) (after-longest hs v l i) in
          let few : v.longest.force ≤ 65535 = omega (arith, same, fits.counted.force) in
          let needed : now.timing.force ≤ v.longest.force = omega (arith, ap (λ (t : Timing). t.force) s.calm.hears.timing, fits.force_most, same) in
          let timer : s.calm.node.state.timing.force ≤ s.calm.node.state.view.timer =
          start-timer hs v l done i k old (record { node = s.calm.node; at = s.calm.at; early = start-early s.calm.node.state.view.phase s.start }) in
          enough now.timing.force now.view.timer (omega (arith, ap (λ (t : Timing). t.force) s.calm.hears.timing, timer, s.calm.heard.timer)) (omega (arith, needed, few))
        where
          enough : (f t : ℕ) → f ≤ t → f ≤ 65535 → f ≤ min (t + 1) 65535
          enough f t h m = omega (arith, h, m)

      two : TwoLeft now.view.ports
      two = undecided-two (raise_timer now) kept.undecided force

      silent : (p : ℕ) → Left now.view.ports p → Silent n.node.state p
      silent p h = record {
        on = ap (λ (z : NodeState). is_connected z.view.ports p) s.calm.is ∙ s.calm.ticks.cables p ∙ h.on;
        silent = ap is_parent (ap (λ (z : NodeState). level_shown z p) s.calm.is ∙ s.calm.ticks.shown p) ∙ go (slice_get now.view.ports p) h.on h.silent;
      }
        where
          go :
              (o : Option PortView) → passes (λ q. q.connected) o ≡ true →
              passes (λ q. is_parent q.shown) o ≡ false → is_parent (shown_or_idle o) ≡ false
          go None on e = refl
          go (Some q) on e = e

  -- after the longest force time two ports keep it there, unless its clock misses the turn
  stays-by-two :
      (i k : ℕ) → v.longest.force ≤ i → (n : IsEarly (quiet_after hs (i + 1) v) k) →
      (s : Started hs v l done i k n.node) → (misses s.calm.node.clock ≡ true) ⊎ TwoSilent n.node.state
  stays-by-two i k old n s = elim s.kept [ inl m ↦ inl m.0 | inr t ↦ inr (ticked-by-two i k old n s t) ]

-- ---- the nodes in T0 of a component without loop

-- where there is no loop, a part has a node with at most one cable into the part
leaf :
    (c : Wiring) (set core part node : ℕ) → IsCore c set core → IsEmpty core → part < 2 ^ 63 →
    IsWithin part set → Holds part node → (leaf : ℕ) × Holds part leaf × (HasTwo c part leaf → ⊥)
leaf c set core part node is empty small within h = elim (weak_or_all c part 63 small) [
  | inl found ↦ (found.0, found.1.here, found.1.weak)
  | inr looped ↦ absurd (empty node ((is node).1 (part, within, (λ x k. looped x k (λ same. omega (arith, below part x small k))), h)))
]

abbrev pub early_there : Option PortNode → Bool
early_there None = false
early_there (Some x) = is_before_tree x.state.view.phase

module _
    (hs : HoldSchedule) (v : CableWorld) (l : IsLawful v) (done : ResetsAreDone v) (set core : ℕ)
    (closed : IsClosed v.cabling set) (is : IsCore v.cabling set core) (empty : IsEmpty core) where
  -- those in T0 after so many turns
  member : ℕ → ℕ → Bool
  member i k = (bit_at set k == 1) && early_there (slice_get (quiet_after hs i v).nodes k)

  few : length v.nodes ≤ 63
  few = omega (arith, l.well_formed.count, l.well_formed.cabling.few_nodes)

  member-parts : (i k : ℕ) → member i k ≡ true → Holds set k × IsEarly (quiet_after hs i v) k
  unfolding member
  member-parts i k h =
      let p = and_parts (bit_at set k == 1) (early_there (slice_get (quiet_after hs i v).nodes k)) h in
      (eqb-true (bit_at set k) 1 p.0, go (slice_get (quiet_after hs i v).nodes k) refl p.1)
    where
      go :
          (o : Option PortNode) → slice_get (quiet_after hs i v).nodes k ≡ o →
          early_there o ≡ true →
          IsEarly (quiet_after hs i v) k
      go None e f = absurd (true≢false (sym f))
      go (Some x) e f = record { node = x; at = e; early = f }

  member-from : (i k : ℕ) → Holds set k → IsEarly (quiet_after hs i v) k → member i k ≡ true
  unfolding member
  member-from i k h n = and_from (bit_at set k == 1) (early_there (slice_get (quiet_after hs i v).nodes k)) (eq-eqb (bit_at set k) 1 h) (ap early_there n.at ∙ n.early)

  member-was : (i j k : ℕ) → member (i + j) k ≡ true → member i k ≡ true
  member-was i j k h =
      let p = member-parts (i + j) k h in
      member-from i k p.0 (early-at-first (holds_after i hs) (quiet_after hs i v) (quiet-lawful hs i v l) (done-at hs v l done i) j k (subst (λ u. IsEarly u k) (quiet-then hs i j v) p.1))

  module _ (t : ℕ) (old : v.longest.force ≤ t) where
    abbrev g : Gathered (member t) (length v.nodes)
    g = gathered (member t) (length v.nodes) few

    -- a port that shows no Parent leads to another of them
    leads :
        (j u : ℕ) → v.delay ≤ j → Holds set u → (n : IsEarly (quiet_after hs (t + j) v) u) → (q : ℕ) →
        Silent n.node.state q → LeadsInto v.cabling g.set (end_at u q)
    leads j u enough in_set n q s = go (far v.cabling (end_at u q)) refl
      where
        cable :
            (o : Option End) → far v.cabling (end_at u q) ≡ o →
            far (quiet_after hs (t + j) v).cabling (end_at u q) ≡ o
        cable o e = ap (λ (c : Wiring). far c (end_at u q)) (after-cabling hs (t + j) v) ∙ e

        to :
            (a : End) → far v.cabling (end_at u q) ≡ Some a → (b : Bool) → member t a.node ≡ b →
            Holds g.set a.node
        to a e true m =
            let there : a.node < length v.cabling = (plugged v.cabling a (end_at u q) (l.well_formed.cabling.both_ways (end_at u q) a e)).node in
            (g.is a.node).1 (omega (arith, there, l.well_formed.count), m)
        to a e false m =
            let w : CableWorld = quiet_after hs t v in
            let late : IsEarly w a.node → ⊥ = λ y. contrary (member-from t a.node (closed (end_at u q) a e in_set) y) m in
            let e_then : far w.cabling (end_at u q) ≡ Some a = ap (λ (c : Wiring). far c (end_at u q)) (after-cabling hs t v) ∙ e in
            let n_then : IsEarly (quiet_after (holds_after t hs) j w) u = subst (λ z. IsEarly z u) (quiet-then hs t j v) n in
            let at_then : slice_get (quiet_after (holds_after t hs) j w).nodes u ≡ Some n.node = ap (λ (z : CableWorld). slice_get z.nodes u) (sym (quiet-then hs t j v)) ∙ n.at in
            let same : w.delay ≤ v.delay = omega (arith, after-delay hs v l t) in
            contrary (shown-parent (holds_after t hs) w (quiet-lawful hs t v l) (done-at hs v l done t) u q a e_then late j (omega (arith, same, enough)) n_then n.node at_then) s.silent

        go :
            (o : Option End) → far v.cabling (end_at u q) ≡ o →
            LeadsInto v.cabling g.set (end_at u q)
        go None e = contrary s.on (((quiet-lawful hs (t + j) v l).well_formed.nodes u n.node n.at).connected q ∙ ap is_some (cable None e))
        go (Some a) e = (a, e, to a e (member t a.node) refl)

    leads-two :
        (j u : ℕ) → v.delay ≤ j → Holds set u → (n : IsEarly (quiet_after hs (t + j) v) u) →
        TwoSilent n.node.state → HasTwo v.cabling g.set u
    leads-two j u enough in_set n two = record {
      low = two.low;
      high = two.high;
      apart = two.apart;
      low_leads = leads j u enough in_set n two.low two.low_silent;
      high_leads = leads j u enough in_set n two.high two.high_silent;
    }

    -- the same node after so many turns
    abbrev moved :
        (i j u : ℕ) → i ≡ j → (n : IsEarly (quiet_after hs i v) u) → IsEarly (quiet_after hs j v) u
    moved i j u z n = record { node = n.node; at = ap (λ m. slice_get (quiet_after hs m v).nodes u) (sym z) ∙ n.at; early = n.early }

    -- if one of them with one cable into the part is still there d turns later, its clock missed the turn
    gone-missed :
        (u j : ℕ) → Holds g.set u → (HasTwo v.cabling g.set u → ⊥) → v.delay ≤ j + 1 → Holds set u →
        IsEarly (quiet_after hs (t + j + 1) v) u → Misses hs v (t + j) u
    gone-missed u j h leaf late in_set n =
        let s : Started hs v l done (t + j) u n.node = started hs v l done (t + j) u n.node n.at n.early in
        let z : t + j + 1 ≡ t + (j + 1) = omega arith in
        elim (stays-by-two hs v l done (t + j) u (omega (arith, old)) n s) [
          | inl missed ↦ record { node = s.calm.node; at = s.calm.at; missed = missed }
          | inr two ↦ absurd (leaf (leads-two (j + 1) u late in_set (moved (t + j + 1) (t + (j + 1)) u z n) two))
        ]

    -- one of them is gone d turns later, and one more where a clock may miss that
    gone :
        (u : ℕ) → Holds g.set u → (HasTwo v.cabling g.set u → ⊥) → (b : Bool) →
        member (t + (v.delay + slack v)) u ≡ b → b ≡ false
    gone u h leaf false m = refl
    gone u h leaf true m =
        let p = member-parts (t + (v.delay + slack v)) u m in
        let j : ℕ = v.delay - 1 in
        let y : t + (v.delay + slack v) ≡ t + (j + slack v) + 1 = omega (arith, l.well_formed.some_delay) in
        let z : t + (j + slack v) ≡ t + j + slack v = omega arith in
        let n : IsEarly (quiet_after hs (t + (j + slack v) + 1) v) u = moved (t + (v.delay + slack v)) (t + (j + slack v) + 1) u y p.1 in
        absurd (not-missed hs v l (t + j) u
        (subst (λ i. Misses hs v i u) z (gone-missed u (j + slack v) h leaf (omega (arith, l.well_formed.some_delay)) p.0 n))
        (λ one.
        let x : t + (j + slack v) ≡ t + j + 1 = omega (arith, one) in
        gone-missed u j h leaf (omega (arith, l.well_formed.some_delay)) p.0 (moved (t + (j + slack v)) (t + j + 1) u x (early-was hs v l done (t + (j + slack v)) u n))))

    falls :
        (k : ℕ) → member t k ≡ true → count (member (t + (v.delay + slack v))) (length v.nodes)
        + 1 ≤ count (member t) (length v.nodes)
    falls k m =
        let e = (member-parts t k m).1 in
        let inside : k < length v.nodes = omega (arith, slice_get_within (quiet_after hs t v).nodes k e.node e.at, after-length hs v l t) in
        let found = leaf v.cabling set core g.set k is empty g.small (λ j h. (member-parts t j ((g.is j).0 h).1).0) ((g.is k).1 (inside, m)) in
        let u = (g.is found.0).0 found.1 in
        count-less (member (t + (v.delay + slack v))) (member t) (λ j. member-was t (v.delay + slack v) j) (length v.nodes) found.0 u.0 (gone found.0 found.1 found.2 (member (t + (v.delay + slack v)) found.0) refl) u.1

  abbrev time : ℕ → ℕ
  time zero = v.longest.force
  time (suc c) = time c + (v.delay + slack v)

  time-is : (c : ℕ) → time c ≡ v.longest.force + c * (v.delay + slack v)
  time-is zero = omega arith
  time-is (suc c) = let z : suc c * (v.delay + slack v) ≡ c * (v.delay + slack v) + (v.delay + slack v) = grind arith in omega (arith, z, time-is c)

  -- after so many times d + slack turns so many are gone, or all
  fewer :
      (c : ℕ) → (count (member (time c)) (length v.nodes) + c ≤ length v.nodes)
      ⊎ (count (member (time c)) (length v.nodes) ≡ 0)
  fewer zero = inl (omega (arith, count-most (member (time zero)) (length v.nodes)))
  fewer (suc c) = go (fewer c) (count-found (member (time c)) (length v.nodes))
    where
      less :
          count (member (time c + (v.delay + slack v))) (length v.nodes) ≤ count (member (time c))
          (length v.nodes)
      less = count-le (member (time c + (v.delay + slack v))) (member (time c)) (λ j. member-was (time c) (v.delay + slack v) j) (length v.nodes)

      go :
          (count (member (time c)) (length v.nodes) + c ≤ length v.nodes)
          ⊎ (count (member (time c)) (length v.nodes) ≡ 0) →
          (count (member (time c)) (length v.nodes) ≡ 0) ⊎ ((k : ℕ) × (member (time c) k ≡ true)) →
          (count (member (time c + (v.delay + slack v))) (length v.nodes) + suc c ≤ length v.nodes)
          ⊎ (count (member (time c + (v.delay + slack v))) (length v.nodes) ≡ 0)
      go f (inl none) = inr (omega (arith, less, none))
      go (inr none) k = inr (omega (arith, less, none))
      go (inl f) (inr k) = inl (omega (arith, f, falls (time c) (omega (arith, time-is c)) k.0 k.1))

  none-left : count (member (time (length v.nodes))) (length v.nodes) ≡ 0
  none-left = elim (fewer (length v.nodes)) [ inl f ↦ omega (arith, f) | inr none ↦ none ]

  -- so in the end each node knows its tree
  pub all-taken :
      (i : ℕ) → v.longest.force + length v.nodes * (v.delay + slack v) ≤ i → (k : ℕ) (x : PortNode) →
      Holds set k → slice_get (quiet_after hs i v).nodes k ≡ Some x →
      is_before_tree x.state.view.phase ≡ false
  all-taken i late k x h at = false_from_ne_true _ (λ e.
      let s : ℕ = time (length v.nodes) in
      let z : i ≡ s + (i - s) = omega (arith, late, time-is (length v.nodes)) in
      let m : member i k ≡ true = member-from i k h (record { node = x; at = at; early = e }) in
      let was : member s k ≡ true = member-was s (i - s) k (ap (λ j. member j k) (sym z) ∙ m) in
      let inside : k < length v.nodes = omega (arith, slice_get_within (quiet_after hs i v).nodes k x at, after-length hs v l i) in
      omega (arith, none-left, count-some (member s) (length v.nodes) k inside was))

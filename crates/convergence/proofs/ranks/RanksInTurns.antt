-- A turn keeps a world acyclic: all nodes that take their roles in it get ranks above the others.
use Rattle.std.proofs.Common.{◌≡◌, ◌⊎◌, inl, inr, ℕ, ◌+◌, ◌<◌, ◌≤◌, Bool, true, false, ◌&&◌, ◌||◌, List, [], Option, Some, None, slice_get, refl, sym, ◌∙◌, ap, subst, arith, if◌then◌else◌, true≢false}
use Rattle.std.proofs.lemmas.Bool.{false_from_ne_true}
use Rattle.convergence.proofs.Common.{Level, Phase, Signal, NodeState, beat, is_connected, is_port, is_resetting, PortNode, End, Wiring, far, ports_of, age_wire, gives, CableWorld, wire_of, inbox, turn_at, turn, hear_all, is_before_tree, is_shaking, signals_of, has_reset, level_shown, leads_down, level_after, Coupling, IsLawful, cabling-after, before, hears, ticks, cable-connected, tree_start-known, turn-state, comes, IsAcyclic, contrary}
use Rattle.port_state.specs.declared.signal.Level.TheVariants as level
use Rattle.port_state.specs.declared.signal.Phase.TheVariants as phase
use Rattle.cable_world.specs.Signals.{shows_no_notice, has_no_notice}
use Rattle.cable_world.specs.Coupling.{is_reset_known}
use Rattle.cable_world.proofs.Lemmas.{level_after-low}
use Rattle.convergence.proofs.turns.Roles.{early-parentless, takes, takes-start, parent-before, child-before}

-- ---- one node

abbrev pub turned : CableWorld → ℕ → PortNode → NodeState
turned w k x = (turn_at w k x).node.state

pub parent-kept :
    (w : CableWorld) → IsLawful w → (k : ℕ) (x : PortNode) → slice_get w.nodes k ≡ Some x → (p : ℕ)
    → is_port (turned w k x).view.parent p ≡ true → takes x.state (turned w k x) ≡ false →
    is_port x.state.view.parent p ≡ true
parent-kept w l k x at p =
    let signals = inbox w 0 (ports_of w.cabling k) in
    subst (λ (y : NodeState). is_port y.view.parent p ≡ true → takes x.state y ≡ false → is_port x.state.view.parent p ≡ true) (sym (turn-state signals x))
    (parent-before signals (beat x) x.state (hears w k x l.well_formed at) (ticks w k x l.well_formed at) p)

-- what a child port was before a turn
abbrev pub WasOrTook : CableWorld → ℕ → PortNode → ℕ → NodeState → Type 0
WasOrTook w k x p y =
    (leads_down x.state.view.ports p ≡ true)
    ⊎ ((takes x.state y ≡ true)
    × (((x.state.view.phase ≡ phase.TreeStart) × (level_shown (hear_all (inbox w 0 (ports_of w.cabling k)) x.state).state p ≡ level.Parent)) ⊎ (x.state.view.phase ≡ phase.Contend)))

pub child-kept :
    (w : CableWorld) → IsLawful w → (k : ℕ) (x : PortNode) → slice_get w.nodes k ≡ Some x → (p : ℕ)
    → is_connected x.state.view.ports p ≡ true → leads_down (turned w k x).view.ports p ≡ true →
    WasOrTook w k x p (turned w k x)
child-kept w l k x at p on =
    let signals = inbox w 0 (ports_of w.cabling k) in
    subst (λ (y : NodeState). leads_down y.view.ports p ≡ true → WasOrTook w k x p y) (sym (turn-state signals x))
    (child-before signals (beat x) x.state (hears w k x l.well_formed at) (ticks w k x l.well_formed at) p on)

-- ---- one cable

-- above a node in T0 no port is or becomes a child port in this turn
none-above :
    (w : CableWorld) → IsLawful w → (a b : End) (x y : PortNode) → far w.cabling a ≡ Some b →
    slice_get w.nodes a.node ≡ Some x → slice_get w.nodes b.node ≡ Some y →
    y.state.view.phase ≡ phase.TreeStart → leads_down (turned w a.node x).view.ports a.port ≡ true →
    ⊥
none-above w l a b x y e at_x at_y start child = elim (child-kept w l a.node x at_x a.port (cable-connected w a b x l.well_formed e at_x) child) [
  | inl was ↦ true≢false (sym (there.child was no-reset).0 ∙ ap (λ o. is_port o b.port) parentless)
  | inr new ↦ elim new.1 [
    | inl adopted ↦ low-parent (level_shown (hear_all signals x.state).state a.port) low-heard adopted.1
    | inr won ↦ late x.state.view.phase is_asking_there won (here.early known)
  ]
]
  where
    signals : List (ℕ × Signal)
    signals = inbox w 0 (ports_of w.cabling a.node)

    back : far w.cabling b ≡ Some a
    back = l.well_formed.cabling.both_ways a b e

    there :
        Coupling w.delay x.state a.port (wire_of w a).signals y.state b.port (wire_of w b).signals
    there = l.coupled.cables a b x y e at_x at_y

    here :
        Coupling w.delay y.state b.port (wire_of w b).signals x.state a.port (wire_of w a).signals
    here = l.coupled.cables b a y x back at_y at_x

    known : is_reset_known w.delay y.state ≡ true
    known = tree_start-known w.delay y.state start

    parentless : y.state.view.parent ≡ None
    parentless = early-parentless y.state (l.well_formed.nodes b.node y at_y).valid (ap is_before_tree start)

    no-reset : has_reset (signals_of (wire_of w b).signals) ≡ false
    no-reset = false_from_ne_true _ (λ s. contrary (here.reset s) (ap is_resetting start))

    is_asking_there : Bool
    is_asking_there = is_port x.state.view.parent a.port

    low-parent : (m : Level) → shows_no_notice m ≡ true → m ≡ level.Parent → ⊥
    low-parent m h g = contrary h (ap shows_no_notice g)

    low-after :
        (g : Bool) (ss : List Signal) → has_no_notice ss ≡ true →
        shows_no_notice (level_after (level_shown x.state a.port) (if g then ss else [])) ≡ true
    low-after true ss h = level_after-low (level_shown x.state a.port) ss (here.no_notice known).0 h
    low-after false ss h = (here.no_notice known).0

    low-heard : shows_no_notice (level_shown (hear_all signals x.state).state a.port) ≡ true
    low-heard =
        ap shows_no_notice ((hears w a.node x l.well_formed at_x).shown a.port (cable-connected w a b x l.well_formed e at_x) ∙ ap (level_after (level_shown x.state a.port)) (comes w b a e))
        ∙ low-after (gives w.delay (age_wire (wire_of w b))) (signals_of (wire_of w b).signals) (here.no_notice known).1

    late :
        (p : Phase) (c : Bool) → p ≡ phase.Contend → (is_before_tree p || (is_shaking p && c))
        ≡ true → ⊥
    late p c h g = contrary g (ap (λ q. is_before_tree q || (is_shaking q && c)) h)

-- ---- new ranks

abbrev takes-of : CableWorld → ℕ → Option PortNode → Bool
takes-of w k None = false
takes-of w k (Some x) = takes x.state (turned w k x)

-- the node of this number takes its roles in the next turn
abbrev takes_at : CableWorld → ℕ → Bool
takes_at w k = takes-of w k (slice_get w.nodes k)

abbrev lift : ℕ → Bool → ℕ
lift most true = most + 1
lift most false = 0

abbrev later : (w : CableWorld) → IsAcyclic w → ℕ → ℕ
later w c k = c.rank k + lift c.most (takes_at w k)

lift-most : (most : ℕ) (b : Bool) → lift most b ≤ most + 1
lift-most most true = omega arith
lift-most most false = omega arith

falls-after :
    (w : CableWorld) → IsLawful w → (c : IsAcyclic w) → (a b : End) (x y : PortNode) →
    far w.cabling a ≡ Some b → slice_get w.nodes a.node ≡ Some x →
    slice_get w.nodes b.node ≡ Some y →
    leads_down (turned w a.node x).view.ports a.port ≡ true →
    is_port (turned w b.node y).view.parent b.port ≡ true → later w c b.node < later w c a.node
falls-after w l c a b x y e at_x at_y child parent = go (takes x.state (turned w a.node x)) (takes y.state (turned w b.node y)) refl refl
  where
    is-x :
        (p : Bool) → takes x.state (turned w a.node x) ≡ p → lift c.most (takes_at w a.node)
        ≡ lift c.most p
    is-x p h = ap (λ o. lift c.most (takes-of w a.node o)) at_x ∙ ap (lift c.most) h

    is-y :
        (p : Bool) → takes y.state (turned w b.node y) ≡ p → lift c.most (takes_at w b.node)
        ≡ lift c.most p
    is-y p h = ap (λ o. lift c.most (takes-of w b.node o)) at_y ∙ ap (lift c.most) h

    go :
        (p q : Bool) → takes x.state (turned w a.node x) ≡ p → takes y.state (turned w b.node y)
        ≡ q → later w c b.node < later w c a.node
    go p true h g = absurd (none-above w l a b x y e at_x at_y (takes-start y.state (turned w b.node y) b.port g parent) child)
    go true false h g = omega (arith, is-x true h, is-y false g, c.bounded b.node)
    go false false h g = elim (child-kept w l a.node x at_x a.port (cable-connected w a b x l.well_formed e at_x) child) [
      | inl was ↦ omega (
        arith,
        is-x false h,
        is-y false g,
        c.falls a b (record {
          joined = e;
          above = x;
          above_at = at_x;
          child = was;
          below = y;
          below_at = at_y;
          parent = parent-kept w l b.node y at_y b.port parent g;
        }),
      )
      | inr new ↦ contrary new.0 h
    ]

pub turn-acyclic : (w : CableWorld) → IsLawful w → IsAcyclic w → IsAcyclic (turn w)
turn-acyclic w l c = record {
  rank = later w c;
  most = c.most + (c.most + 1);
  bounded = λ k. omega (arith, c.bounded k, lift-most c.most (takes_at w k));
  falls = λ a b e.
      let x = before w a.node e.above l.well_formed e.above_at in
      let y = before w b.node e.below l.well_formed e.below_at in
      falls-after w l c a b x.0 y.0 (ap (λ (d : Wiring). far d a) (sym (cabling-after w)) ∙ e.joined) x.1 y.1
      (ap (λ (z : PortNode). leads_down z.state.view.ports a.port) (sym x.2) ∙ e.child)
      (ap (λ (z : PortNode). is_port z.state.view.parent b.port) (sym y.2) ∙ e.parent);
}

-- What has settled stays settled in turns and holds. A loop does, since its nodes don't leave T0
-- and their timers rise;
-- a tree is at rest; of a contention it is told at the end whether a tree has come of it.
use Rattle.std.proofs.Common.{◌⊎◌, ◌≡◌, inl, inr, ℕ, ◌+◌, ◌-◌, ◌^◌, ◌<◌, ◌≤◌, true, None, Some, length, slice_get, sym, ◌∙◌, ap, subst, arith}
use Rattle.outcomes.proofs.Common.{Tree, Wiring, Holds, IsComponent, IsCore, End, NodeState, Timing, PortNode, CableWorld, turn, hold, hold_fault, ComesOfPowerOn, IsLawful, loop, tree, contention, IsTree, IsSettled, is_before_tree, some-of, some-at, some-same, comes-lawful, after-length, cabling-after, risen, quiet-then, quiet-lawful, after-cabling, HoldSchedule, holds_after, quiet_after, ResetsAreDone, ResetsAreOver, HasContention, done-after, comes-contested, comes-acyclic, done-over, Calmly, heard_by, IsNumbering}
use Rattle.port_state.specs.declared.signal.Phase.TheVariants as phase
use Rattle.cable_world.specs.Outcome.{Ending, IsLoop, IsContention, IsOutcome}
use Rattle.cable_world.specs.Times.{Suits}
use Rattle.cable_world.specs.Run.{Rests, still, hold_first, turn_first}
use Rattle.cable_world.proofs.Lemmas.{after-longest, turn-comes, hold-comes, nodes-after, quiet-comes}
use Rattle.convergence.specs.Kept.{IsGrown}
use Rattle.convergence.specs.Milestones.{TreesAreTaken}
use Rattle.convergence.specs.Turns.{turns_to_settle, turns_to_done}
use Rattle.convergence.proofs.Lemmas.{taken-reached, taken-turn, core-shows, Grown, grown-of, contention-turn, IsEarly, only-start, start-early, start-timeout, StaysInStart, start-on, calmly, early-before, done-calm, turn-done}
use Rattle.outcomes.proofs.settled.Beginnings.{all-or-not}
use Rattle.outcomes.proofs.settled.Numbering.{comes-numbering}
use Rattle.outcomes.proofs.settled.Outcomes.{no-tree-yet, tree-or-none, contention-outcome, tree-outcome}
use Rattle.outcomes.proofs.settled.Components.{Part}
use Rattle.outcomes.proofs.settled.QuietTurns.{settles-at-last}
use Rattle.outcomes.proofs.settled.TreesStay.{turn-tree}
use Rattle.outcomes.proofs.settled.Unnamed.{shows-unnamed}
use Rattle.port_state.specs.Machine.{beat}

-- ---- what is kept

-- the nodes of a core have been in T0 for so long that they report the timeout
abbrev AreLate : CableWorld → ℕ → Type 0
AreLate w core =
    (k : ℕ) (x : PortNode) → Holds core k → slice_get w.nodes k ≡ Some x →
    x.state.timing.timeout ≤ x.state.view.timer

data Come (w : CableWorld) (set : ℕ) : Type 0 where
  looped : (core : ℕ) → IsLoop w set core → AreLate w core → Come w set
  treed : (root : ℕ) (t : Tree) → IsTree w set root t → Come w set
  contended : (a b : ℕ) → IsContention w set a b → Come w set

-- a component of a world in which resets are done has come to something
record Staying (w : CableWorld) (node set : ℕ) : Type 0 where
  reached : ComesOfPowerOn w
  done : ResetsAreDone w
  taken : TreesAreTaken w
  there : node < length w.nodes
  component : IsComponent w.cabling node set
  come : Come w set

-- ---- a turn

module _
    (w : CableWorld) (r : ComesOfPowerOn w) (done : ResetsAreDone w) (node set : ℕ)
    (comp : IsComponent w.cabling node set) where
  lawful : IsLawful w
  lawful = comes-lawful w r

  abbrev v : CableWorld
  v = turn w

  v-reached : ComesOfPowerOn v
  v-reached = turn-comes w r

  v-lawful : IsLawful v
  v-lawful = comes-lawful v v-reached

  v-done : ResetsAreDone v
  v-done = turn-done w lawful done

  v-over : ResetsAreOver v
  v-over = done-over v v-lawful v-done

  v-comp : IsComponent v.cabling node set
  v-comp = subst (λ (c : Wiring). IsComponent c node set) (sym (cabling-after w)) comp

  -- a node of a core is in T0 before and after
  record StaysLate (y : NodeState) : Type 0 where
    start : y.view.phase ≡ phase.TreeStart
    reports : y.view.timed_out ≡ true
    late : y.timing.timeout ≤ y.view.timer

  module _ (core : ℕ) (h : IsLoop w set core) (late : AreLate w core) where
    core-after : IsCore v.cabling set core
    core-after = subst (λ (c : Wiring). IsCore c set core) (sym (cabling-after w)) h.is_core

    stays-late : (k : ℕ) (y : PortNode) → Holds core k → slice_get v.nodes k ≡ Some y →
        StaysLate y.state
    stays-late k y inside at = record {
      start = y-start;
      reports = elim kept [
        | inl m ↦ ap (λ (z : NodeState). z.view.timed_out) m ∙ c.heard.timed_out ∙ reported
        | inr s ↦ s.reports (omega (arith, risen-late, times, ap (λ (t : Timing). t.timeout) c.hears.timing))
      ];
      late = risen-late;
    }
      where
        early : is_before_tree y.state.view.phase ≡ true
        early =
            let x =
            some-of (slice_get v.nodes k) _
            (core-shows v v-lawful set (λ a b y h. v-over a b y) (comes-acyclic v v-reached) core k
            core-after inside) in
            ap (λ (z : PortNode). is_before_tree z.state.view.phase)
            (some-same y x.0 (sym at ∙ x.1)) ∙ x.2

        c : Calmly w k y.state
        c = calmly w lawful (done-calm w done) k y at

        y-start : y.state.view.phase ≡ phase.TreeStart
        y-start = only-start y.state.view.phase early (v-done k y at)

        x-start : c.node.state.view.phase ≡ phase.TreeStart
        x-start =
            only-start c.node.state.view.phase (early-before w k y.state c early)
            (done k c.node c.at)

        -- its clock missed the turn, or a tick left it there
        kept : (y.state ≡ heard_by w k c.node) ⊎ StaysInStart (heard_by w k c.node) y.state
        kept = elim (start-on (beat c.node) (heard_by w k c.node) (c.heard.phase ∙ x-start) (sym (ap (λ (z : NodeState). z.view.phase) c.is) ∙ y-start)) [
          | inl a ↦ inl (c.is ∙ a.1)
          | inr s ↦ inr (subst (StaysInStart (heard_by w k c.node)) (sym c.is) s)
        ]

        reported : c.node.state.view.timed_out ≡ true
        reported =
            let x = some-of (slice_get w.nodes k) _ (h.timed_out k inside) in
            ap (λ (z : PortNode). z.state.view.timed_out) (some-same c.node x.0 (sym c.at ∙ x.1)) ∙ x.2.1

        fits : Suits w.delay w.longest c.node.state.timing
        fits = (lawful.well_formed.nodes k c.node c.at).timing

        times : y.state.timing.timeout ≡ c.node.state.timing.timeout
        times = ap (λ (z : NodeState). z.timing.timeout) c.is ∙ ap (λ (t : Timing). t.timeout) (c.ticks.timing ∙ c.hears.timing)

        risen-late : y.state.timing.timeout ≤ y.state.view.timer
        risen-late = elim kept [
          | inl m ↦ omega (arith, times, late k c.node inside c.at, ap (λ (z : NodeState). z.view.timer) m, c.heard.timer)
          | inr s ↦
              up y.state.timing.timeout c.node.state.view.timer (heard_by w k c.node).view.timer
              y.state.view.timer (omega (arith, times, late k c.node inside c.at)) c.heard.timer s.timer
              (omega (arith, times, fits.timeout_most, fits.counted.timeout))
        ]
          where
            up : (n a b c : ℕ) → n ≤ a → b ≡ a → c ≡ risen b → n ≤ 65535 → n ≤ c
            up n a b c h e f m = omega (arith, h, e, f, m)

    loop-turn : IsLoop v set core
    loop-turn = record {
      is_core = core-after;
      node = h.node;
      in_core = h.in_core;
      timed_out = λ k inside.
          let x =
          some-of (slice_get v.nodes k) _
          (core-shows v v-lawful set (λ a b y h. v-over a b y) (comes-acyclic v v-reached) core k
          core-after inside) in
          let s = stays-late k x.0 inside x.1 in
          some-at (slice_get v.nodes k) x.0
          (λ (y : PortNode). (y.state.view.phase ≡ phase.TreeStart)
          × (y.state.view.timed_out ≡ true)) x.1 (s.start, s.reports);
      unnamed =
          shows-unnamed v v-lawful (comes-numbering v v-reached).identifies set
          (λ a b y h. v-over a b y) (comes-acyclic v v-reached) node core h.node v-comp core-after
          h.in_core;
    }

    loop-late : AreLate v core
    loop-late k y inside at = (stays-late k y inside at).late

  come-turn : TreesAreTaken w → set < 2 ^ 63 → Come w set → Come v set
  come-turn taken small (looped core h late) =
      looped core (loop-turn core h late) (loop-late core h late)
  come-turn taken small (treed root t h) = treed root t (turn-tree w r node set comp small root t h)
  come-turn taken small (contended a b h) = contended now.low now.high now.is
    where
      whole : IsGrown w
      whole = record {
        lawful = lawful;
        acyclic = comes-acyclic w r;
        contested = comes-contested w r;
        done = done;
        taken = taken;
      }

      grown : Grown w set
      grown = grown-of w node set h.no_loop.core whole comp h.no_loop.is_core h.no_loop.empty

      now : HasContention v set
      now = contention-turn w set grown (record { low = a; high = b; is = h })

turn-stays : (w : CableWorld) (node set : ℕ) → set < 2 ^ 63 → Staying w node set →
    Staying (turn w) node set
turn-stays w node set small s = record {
  reached = turn-comes w s.reached;
  done = turn-done w (comes-lawful w s.reached) s.done;
  taken = taken-turn w (comes-lawful w s.reached) s.done s.taken;
  there = omega (arith, s.there, nodes-after w (comes-lawful w s.reached).well_formed.count);
  component = v-comp w s.reached s.done node set s.component;
  come = come-turn w s.reached s.done node set s.component s.taken small s.come;
}

-- ---- a hold

come-held : (end : End) (k : ℕ) (w : CableWorld) (set : ℕ) → Come w set → Come (hold end k w) set
come-held end k w set (looped core h late) =
    looped core (record {
      is_core = h.is_core;
      node = h.node;
      in_core = h.in_core;
      timed_out = h.timed_out;
      unnamed = h.unnamed;
    }) late
come-held end k w set (treed root t h) = treed root t (record {
  no_loop = record { core = h.no_loop.core; is_core = h.no_loop.is_core; empty = h.no_loop.empty };
  holds_root = h.holds_root;
  seen = h.seen;
  no_parent = h.no_parent;
  parents = h.parents;
  ids = h.ids;
  lists = h.lists;
})
come-held end k w set (contended a b h) = contended a b (record {
  no_loop = record { core = h.no_loop.core; is_core = h.no_loop.is_core; empty = h.no_loop.empty };
  rising = h.rising;
  holds_a = h.holds_a;
  holds_b = h.holds_b;
  port_a = h.port_a;
  port_b = h.port_b;
  cable = h.cable;
  draws = h.draws;
})

hold-stays :
    (end : End) (k : ℕ) (w : CableWorld) (node set : ℕ) → hold_fault end w ≡ None →
    Staying w node set →
    Staying (hold end k w) node set
hold-stays end k w node set none s = record {
  reached = hold-comes end k w none s.reached;
  done = s.done;
  taken = s.taken;
  there = s.there;
  component = s.component;
  come = come-held end k w set s.come;
}

stays-on :
    {k : ℕ} {w v : CableWorld} → (node set : ℕ) → Rests k w v → set < 2 ^ 63 →
    Staying w node set → Staying v node set
stays-on node set still small s = s
stays-on {w = w} node set (hold_first end k none rests) small s =
    stays-on node set rests small (hold-stays end k w node set none s)
stays-on {w = w} node set (turn_first rests) small s =
    stays-on node set rests small (turn-stays w node set small s)

-- ---- what it has come to

settled-of : (w : CableWorld) (node set : ℕ) → set < 2 ^ 63 → Staying w node set → IsSettled w set
settled-of w node set small s = go s.come
  where
    lawful : IsLawful w
    lawful = comes-lawful w s.reached

    n : IsNumbering w
    n = comes-numbering w s.reached

    over : ResetsAreOver w
    over = done-over w lawful s.done

    go : Come w set → IsSettled w set
    go (looped core h late) = (loop core, h)
    go (treed root t h) = tree-outcome w set root t h
    go (contended a b h) = elim (all-or-not w set) [
      | inr out ↦
          contention-outcome w lawful (comes-contested w s.reached) over node set s.component now
          (no-tree-yet w set n.identifies out)
      | inl all ↦
          let walk =
          n.walks node set h.no_loop.core s.there s.component h.no_loop.is_core small all in
          elim (tree-or-none w lawful n.acyclic n.identifies set h.no_loop.core walk.root walk.tree
          walk.is) [
            | inl t ↦ tree-outcome w set walk.root walk.tree t
            | inr none ↦
                contention-outcome w lawful (comes-contested w s.reached) over node set s.component
                now none
          ]
    ]
      where
        now : HasContention w set
        now = record { low = a; high = b; is = h }

-- ---- after so many quiet turns

module _
    (hs : HoldSchedule) (w : CableWorld) (r : ComesOfPowerOn w) (p : Part w) (k : ℕ)
    (quiet : turns_to_settle w ≤ k) where
  abbrev u : CableWorld
  u = quiet_after hs k w

  w-lawful : IsLawful w
  w-lawful = comes-lawful w r

  u-comp : IsComponent u.cabling p.node p.set
  u-comp =
      subst (λ (c : Wiring). IsComponent c p.node p.set) (sym (after-cabling hs k w)) p.component

  abbrev first : ℕ
  first = turns_to_done w

  begun : first + w.longest.timeout ≤ k
  begun = omega (arith, quiet)

  abbrev start : CableWorld
  start = quiet_after hs first w

  same : quiet_after (holds_after first hs) (k - first) start ≡ u
  same =
      let z : first + (k - first) ≡ k = omega (arith, begun) in
      sym (quiet-then hs first (k - first) w) ∙ ap (λ (i : ℕ). quiet_after hs i w) z

  core-late : (c : ℕ) → IsLoop u p.set c → AreLate u c
  core-late c h j x inside at =
      let y = some-of (slice_get u.nodes j) _ (h.timed_out j inside) in
      let begins : x.state.view.phase ≡ phase.TreeStart =
      ap (λ (z : PortNode). z.state.view.phase) (some-same x y.0 (sym at ∙ y.1)) ∙ y.2.0 in
      let early : IsEarly (quiet_after (holds_after first hs) (k - first) start) j = record {
        node = x;
        at = ap (λ (z : CableWorld). slice_get z.nodes j) same ∙ at;
        early = start-early x.state.view.phase begins;
      } in
      start-timeout (holds_after first hs) start (quiet-lawful hs first w w-lawful)
      (done-after hs w first w-lawful (omega arith)) (k - first) j
      (omega (arith, begun, ap (λ (t : Timing). t.timeout) (after-longest hs w w-lawful first))) early

  come-of : IsSettled u p.set → Come u p.set
  come-of s = go s.0 s.1
    where
      go : (o : Ending) → IsOutcome u p.set o → Come u p.set
      go (loop c) h = looped c h (core-late c h)
      go (tree root t) h = treed root t h
      go (contention a b) h = contended a b h.0

  staying : Staying u p.node p.set
  staying = record {
    reached = quiet-comes hs k w r;
    done = done-after hs w k w-lawful (omega (arith, quiet));
    taken = taken-reached hs w k r (omega (arith, quiet));
    there = omega (arith, p.there, after-length hs w w-lawful k);
    component = u-comp;
    come = come-of (settles-at-last hs w r p k quiet);
  }

  pub stays-settled : (v : CableWorld) (more : ℕ) → Rests more u v → IsSettled v p.set
  stays-settled v more rests =
      settled-of v p.node p.set p.small (stays-on p.node p.set rests p.small staying)

-- Where one node alone waits to become root, the component comes to a tree with that root; and a
-- configuration packet makes it so.
use Rattle.std.proofs.Common.{Bool, refl, ◌≡◌, ◌≢◌, inl, inr, ℕ, zero, suc, ◌+◌, ◌-◌, ◌*◌, ◌^◌, ◌<◌, ◌≤◌, true, false, Option, Some, None, IsSome, length, slice_get, sym, ◌∙◌, ap, subst, arith, true≢false}
use Rattle.std.proofs.lemmas.Bool.{cases_eq}
use Rattle.std.proofs.lemmas.Option.{slice_get_cases, slice_get_within}
use Rattle.outcomes.proofs.Common.{Tree, Wiring, Holds, IsComponent, shared, IsCore, numbers, Phase, config_packet, PortNode, node_disturb, node_set_config, Config, CableWorld, ComesOfPowerOn, IsAct, act_fault, change_in_set, is_in_bus_reset, AtView, IsTree, IsSettled, loop, tree, contention, some-of, some-at, some-same, start-before_tree, comes-lawful, act-comes, after-length, after-cabling, HoldSchedule, quiet_after, comes-contested, IsNamedAlone, IsIdentifying, is_ready}
use Rattle.port_state.specs.Config.{gap_or}
use Rattle.cable_world.specs.Outcome.{HasNoLoop, Ending, IsOutcome}
use Rattle.cable_world.proofs.Lemmas.{step-cables}
use Rattle.convergence.proofs.Lemmas.{quiet-contested}
use Rattle.convergence.specs.Turns.{turns_to_settle, turns_to_over}
use Rattle.outcomes.specs.Forced.{CanBeForcedAt, IsForced, IsRooted, NamesRoot, SendsPacket, forced_turns}
use Rattle.outcomes.proofs.forced.Configured.{names-sends, sent-fresh, sent-alone, sent-gaps}
use Rattle.outcomes.proofs.forced.ForcedRoot as forced
use Rattle.outcomes.proofs.forced.Spread.{all-reset}
use Rattle.outcomes.proofs.forced.Towards.{no-draws}
use Rattle.outcomes.proofs.forced.Waits.{taken-by}
use Rattle.outcomes.proofs.settled.Outcomes.{tree-ready}
use Rattle.outcomes.proofs.settled.Components.{Part}
use Rattle.outcomes.proofs.settled.QuietTurns.{few-nodes, settles-at-last}

-- ---- a component in which one node is forced

module _
    (hs : HoldSchedule) (w : CableWorld) (r : ComesOfPowerOn w) (node set root : ℕ)
    (f : IsForced w node set root)
    (small : set < 2 ^ 63) (k : ℕ) (quiet : turns_to_settle w ≤ k) where
  abbrev v : CableWorld
  v = quiet_after hs k w

  abbrev core : ℕ
  core = f.no_loop.core

  abbrev first : ℕ
  first = turns_to_over w

  late : forced_turns w ≤ k
  late = omega (arith, quiet, (few-nodes w f.lawful).1)

  rooted : IsRooted v set root
  rooted = record {
    is_root =
        forced.root hs w f.lawful node set core f.component f.no_loop.is_core f.no_loop.empty small
        f.fresh root f.alone f.enough k (omega (arith, late));
    late =
        forced.late hs w f.lawful node set core f.component f.no_loop.is_core f.no_loop.empty small
        f.fresh root f.alone f.enough k (omega (arith, late));
    parents =
        forced.others hs w f.lawful node set core f.component f.no_loop.is_core f.no_loop.empty
        small f.fresh root f.alone f.enough k (omega (arith, late));
  }

  -- nobody draws a coin
  undrawn :
      (i j : ℕ) (x : PortNode) → Holds set j →
      slice_get (quiet_after hs (first + i) w).nodes j ≡ Some x →
      x.state.view.draws ≡ 0
  undrawn zero j x inside at =
      let z : first + 0 ≡ first = omega arith in
      let here : slice_get (quiet_after hs first w).nodes j ≡ Some x =
      subst (λ n. slice_get (quiet_after hs n w).nodes j ≡ Some x) z at in
      let n = few-nodes w f.lawful in
      ((quiet-contested hs first w f.lawful (comes-contested w r)).nodes j x here).fresh
      (start-before_tree x.state.view.phase
      (all-reset hs w f.lawful node set f.component f.fresh first (omega (arith, n.0))
      (omega (arith, n.1, f.lawful.well_formed.some_delay)) j x inside here).0)
  undrawn (suc i) j y inside at = elim (slice_get_cases (quiet_after hs (first + i) w).nodes j).1 [
    | inl found ↦
        let z : first + suc i ≡ first + i + 1 = omega arith in
        no-draws hs w f.lawful node set core f.component f.no_loop.is_core f.no_loop.empty small
        f.fresh root f.alone f.enough (first + i) j found.0 y (omega arith) inside found.2
        (subst (λ n. slice_get (quiet_after hs n w).nodes j ≡ Some y) z at)
        ∙ undrawn i j found.0 inside found.2
    | inr lacks ↦
        absurd (omega (
          arith,
          lacks.0,
          slice_get_within (quiet_after hs (first + suc i) w).nodes j y
              at,
          after-length hs w f.lawful (first + i),
          after-length hs w f.lawful (first + suc i),
        ))
  ]

  none-drew : (j : ℕ) (x : PortNode) → Holds set j → slice_get v.nodes j ≡ Some x →
      x.state.view.draws ≡ 0
  none-drew j x inside at =
      let z : k ≡ first + (k - first) = omega (arith, quiet) in
      undrawn (k - first) j x inside
      (subst (λ n. slice_get (quiet_after hs n w).nodes j ≡ Some x) z at)

  pub forced-outcome : (t : Tree) × IsTree v set root t
  forced-outcome = go outcome.0 outcome.1
    where
      outcome : IsSettled v set
      outcome =
          let x = some-of (slice_get w.nodes f.fresh.node) _ f.fresh.resets in
          let p : Part w = record {
            node = f.fresh.node;
            set = set;
            core = core;
            there = slice_get_within w.nodes f.fresh.node x.0 x.1;
            component =
                shared w.cabling node f.fresh.node set f.lawful.well_formed.cabling f.component
                f.fresh.holds;
            is_core = f.no_loop.is_core;
            small = small;
          } in
          settles-at-last hs w r p k quiet

      no-some : (o : Option ℕ) → IsSome o → o ≡ None → ⊥
      no-some None h e = true≢false (sym h)
      no-some (Some p) h e = absurd cc

      same : (other : ℕ) (t : Tree) → IsTree v set other t → other ≡ root
      same other t h = elim (cases_eq other root) [
        | inl e ↦ e
        | inr ne ↦
            let x = some-of (slice_get v.nodes other) _ h.no_parent in
            absurd (no-some x.0.state.view.parent (rooted.parents other x.0 h.holds_root ne x.1)
            x.2)
      ]

      go : (o : Ending) → IsOutcome v set o → (t : Tree) × IsTree v set root t
      go (loop c) h =
          let is : IsCore v.cabling set core =
          subst (λ (d : Wiring). IsCore d set core) (sym (after-cabling hs k w))
          f.no_loop.is_core in
          absurd (f.no_loop.empty h.node ((is h.node).1 ((h.is_core h.node).0 h.in_core)))
      go (tree other t) h = (t, subst (λ (q : ℕ). IsTree v set q t) (same other t h) h)
      go (contention a b) h =
          let x = some-of (slice_get v.nodes a) _ h.0.draws in
          let y = some-of (slice_get v.nodes b) _ x.2 in
          absurd (omega (arith, y.2.many, none-drew a x.0 h.0.holds_a x.1))

-- ---- a configuration packet

-- in a tree each ID is that of one node
pub named-alone :
    (w : CableWorld) (set old root id : ℕ) (t : Tree) → IsIdentifying w → IsTree w set old t →
    Holds set root → AtView w root (λ v. v.id ≡ Some id) → IsNamedAlone w set root id
named-alone w set old root id t i h inside named = record {
  holds = inside;
  calm = λ k m.
      let x = some-of (slice_get w.nodes k) _ (h.ids k m) in
      some-at (slice_get w.nodes k) x.0
      (λ (y : PortNode). is_in_bus_reset y.state.view.phase ≡ false) x.1
      (calm x.0.state.view.phase (tree-ready w set old t i h k x.0 m x.1));
  named = named;
  others = λ k m ne.
      let x = some-of (slice_get w.nodes k) _ (h.ids k m) in
      some-at (slice_get w.nodes k) x.0 (λ (y : PortNode). y.state.view.id ≢ Some id) x.1
      (λ e. ne (some-same k root (sym (stands k x.0 m x.1 e) ∙ stands-there)));
}
  where
    calm : (p : Phase) → is_ready p ≡ true → is_in_bus_reset p ≡ false
    calm p e = grind (arith, e)

    stands :
        (k : ℕ) (x : PortNode) → Holds set k → slice_get w.nodes k ≡ Some x →
        x.state.view.id ≡ Some id → slice_get (numbers w.cabling old t) id ≡ Some k
    stands k x m at e =
        let y = some-of (slice_get w.nodes k) _ (h.ids k m) in
        let j = some-of y.0.state.view.id _ y.2 in
        let same : j.0 ≡ id =
        some-same j.0 id (sym j.1 ∙ ap (λ (z : PortNode). z.state.view.id)
        (some-same y.0 x (sym y.1 ∙ at)) ∙ e) in
        ap (slice_get (numbers w.cabling old t)) (sym same) ∙ j.2

    stands-there : slice_get (numbers w.cabling old t) id ≡ Some root
    stands-there =
        let y = some-of (slice_get w.nodes root) _ named in stands root y.0 inside y.1 y.2

module _
    (hs : HoldSchedule) (w v : CableWorld) (r : ComesOfPowerOn w) (from id : ℕ) (force : Bool)
    (gap : Option ℕ) (set : ℕ)
    (sent : SendsPacket w v from id force gap set) (is : IsAct (Config from id force gap))
    (none : act_fault (Config from id force gap) w ≡ None) where
  reached : ComesOfPowerOn v
  reached = act-comes (Config from id force gap) w v (is, none, sent.act) r

  same-cables : v.cabling ≡ w.cabling
  same-cables =
      let told : CableWorld =
      record w {
        nodes = change_in_set sent.act.0 (node_set_config (config_packet id force gap)) 0
            w.nodes;
      } in
      ap (λ (u : CableWorld). u.cabling) sent.act.2 ∙ step-cables from node_disturb told

  component : IsComponent v.cabling from set
  component = subst (λ (d : Wiring). IsComponent d from set) (sym same-cables) sent.component

  -- each node has the gap count that the packet gives
  pub packet-gaps :
      (k j : ℕ) (x y : PortNode) → turns_to_over v ≤ k → Holds set j →
      slice_get w.nodes j ≡ Some x → slice_get (quiet_after hs k v).nodes j ≡ Some y →
      y.state.view.gap ≡ gap_or gap x.state.view.next_gap
  packet-gaps k j x y late inside at_x at_y = elim (slice_get_cases v.nodes j).1 [
    | inl found ↦
        (taken-by hs v (comes-lawful v reached) from set component
        (sent-fresh w v from id force gap set sent) k j found.0 y late inside found.2 at_y).1
        ∙ sent-gaps w v from id force gap set sent j x found.0 inside at_x found.2
    | inr lacks ↦
        absurd (omega (
          arith,
          lacks.0,
          slice_get_within (quiet_after hs k v).nodes j y at_y,
          after-length hs v (comes-lawful v reached) k,
        ))
  ]

module _
    (hs : HoldSchedule) (w v : CableWorld) (r : ComesOfPowerOn w) (from id : ℕ) (gap : Option ℕ)
    (set root : ℕ)
    (n : NamesRoot w v from id gap set root) (is : IsAct (Config from id true gap))
    (none : act_fault (Config from id true gap) w ≡ None) where
  abbrev names : SendsPacket w v from id true gap set
  names = names-sends w v from id gap set root n

  -- the node that the packet names is the root of the tree
  pub config-outcome :
      CanBeForcedAt v root → HasNoLoop w set → set < 2 ^ 63 → (k : ℕ) → turns_to_settle v ≤ k →
      (t : Tree) × IsTree (quiet_after hs k v) set root t
  config-outcome can no_loop small k quiet =
      let on : ComesOfPowerOn v = reached hs w v r from id true gap set names is none in
      forced-outcome hs v on from set root (record {
        lawful = comes-lawful v on;
        component = component hs w v r from id true gap set names is none;
        no_loop = record {
          core = no_loop.core;
          is_core =
              subst (λ (d : Wiring). IsCore d set no_loop.core)
              (sym (same-cables hs w v r from id true gap set names is none)) no_loop.is_core;
          empty = no_loop.empty;
        };
        fresh = sent-fresh w v from id true gap set names;
        alone = sent-alone w v from id true gap set names root refl n.named;
        enough = can;
      }) small k quiet

  -- and each node has the gap count that it gives
  pub config-gaps :
      (k j : ℕ) (x y : PortNode) → turns_to_over v ≤ k → Holds set j →
      slice_get w.nodes j ≡ Some x → slice_get (quiet_after hs k v).nodes j ≡ Some y →
      y.state.view.gap ≡ gap_or gap x.state.view.next_gap
  config-gaps = packet-gaps hs w v r from id true gap set names is none

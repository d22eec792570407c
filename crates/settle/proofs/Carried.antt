-- What is there once a plan is carried out.
use Rattle.std.proofs.Common.{◌≡◌, inl, inr, ℕ, ◌^◌, ◌<◌, ◌≤◌, true, Some, None, Result, Ok, Err, List, length, slice_get, refl, sym, ◌∙◌, ap, subst, arith}
use Rattle.std.specs.Coded.{Coded-set, coded_ℕ}
use Rattle.std.specs.Prelude.{Any, IfOk, OnOk}
use Rattle.std.proofs.Math.Logic.{∥∥₁_elim}
use Rattle.std.proofs.lemmas.Option.{slice_get_cases, slice_get_within}
use Rattle.self_id.specs.declared.standard.Standard.TheVariants.{Ieee2000}
use Rattle.topology_stack.specs.Tree.{Tree, IsBusTreeOf}
use Rattle.cabling.specs.Labels.{labels}
use Rattle.cabling.proofs.Lemmas.{Loopless}
use Rattle.settle.specs.Hops.{HopsStay}
use Rattle.cabling.specs.Wiring.{Wiring}
use Rattle.cabling.specs.NodeSet.{Holds}
use Rattle.cabling.specs.Component.{IsComponent}
use Rattle.port_state.specs.Config.{config_packet}
use Rattle.port_state.specs.Machine.{PortNode, node_disturb, node_set_config}
use Rattle.cable_world.specs.declared.act.Act.TheVariants.{Config}
use Rattle.cable_world.specs.World.{CableWorld}
use Rattle.cable_world.specs.Run.{IsReached}
use Rattle.cable_world.specs.Act.{IsAct, ActLeads, act_fault, change_in_set}
use Rattle.cable_world.specs.Lawful.{IsWellFormed, IsLawful}
use Rattle.cable_world.specs.Outcome.{IsTree, attrs_now}
use Rattle.cable_world.proofs.Lemmas.{some-of, some-at, reached-comes, reached-lawful, act-reached, turns-reached, step-cables, plain-quiet, plainly, turns-cabling}
use Rattle.convergence.specs.Turns.{turns_to_over}
use Rattle.cable_world.specs.Quiet.{no_holds}
use Rattle.outcomes.specs.Forced.{NamesRoot}
use Rattle.outcomes.proofs.Lemmas.{reached-enough}
use Rattle.outcomes.specs.Settled.{IdsNameOneNode, ConfigsMoveRoots, ConfigsSetGaps}
use Rattle.root_plan.specs.declared.choice.RootPlan.{RootPlan}
use Rattle.settle.specs.Report.{AreParts, IsTreeFrom, IsAfterQuiet, quiet_turns_of}
use Rattle.settle.specs.declared.report.Part.{Part}
use Rattle.settle.specs.Planned.{WantsGap, SuitsTree, HasId, HaveGap}
use Rattle.settle.proofs.Found.{FoundTree, found, found-tree}
use Rattle.settle.proofs.SameNodes.{same-component}
use Rattle.settle.proofs.QuietCount.{turns-enough}
use Rattle.settle.proofs.SeenTrees.{bus-of}
use Rattle.settle.proofs.Suited.{from-there, tree-there, packet-fits, loopless-from}

-- ---- answers

pub on-both : {A E : Type 0} → (r : Result A E) (P Q : Type 0) → OnOk r P → OnOk r Q →
    OnOk r (P × Q)
on-both (Ok x) P Q p q = (p, q)
on-both (Err e) P Q p q = tt

pub if-ok :
    {A E : Type 0} → (r : Result A E) (P R : A → Type 0) (Q : Type 0) → IfOk r P → OnOk r Q →
    ((x : A) → P x → Q → R x) → IfOk r R
if-ok (Ok x) P R Q p q f = f x p q
if-ok (Err e) P R Q p q f = tt

-- ---- the world that settled

module _
    (names : IdsNameOneNode) (moves : ConfigsMoveRoots) (sets : ConfigsSetGaps)
    (w sent v : CableWorld) (reached : ∥ IsReached w ∥₁) (l : IsLawful w) (from : ℕ)
    (plan : RootPlan) (s : SuitsTree w from plan) (set : ℕ)
    (component : IsComponent w.cabling from set) (small : set < 2 ^ 63)
    (accepted : act_fault (Config from plan.root_id true (Some plan.gap)) w ≡ None)
    (act : ActLeads (Config from plan.root_id true (Some plan.gap)) w sent)
    (quiet : IsAfterQuiet sent v) where
  fits : IsAct (Config from plan.root_id true (Some plan.gap))
  fits = packet-fits w l from plan s set component small

  -- ---- cables stay

  sent-cables : sent.cabling ≡ w.cabling
  sent-cables =
      let told : CableWorld = record w { nodes = change_in_set act.0 (node_set_config (config_packet plan.root_id true (Some plan.gap))) 0 w.nodes } in
      ap (λ (u : CableWorld). u.cabling) act.2 ∙ step-cables from node_disturb told

  cables : v.cabling ≡ w.cabling
  cables = ap (λ (u : CableWorld). u.cabling) quiet ∙ turns-cabling (quiet_turns_of sent) sent ∙ sent-cables

  pub nodes-stay : length v.nodes ≡ length w.nodes
  nodes-stay = ∥∥₁_elim reached (Coded-set coded_ℕ (length v.nodes) (length w.nodes)) (λ r.
      let s = act-reached (Config from plan.root_id true (Some plan.gap)) w sent (fits, accepted, act) r in
      let u = reached-lawful v (subst IsReached (sym quiet) (turns-reached (quiet_turns_of sent) sent s)) in
      u.well_formed.count ∙ ap length cables ∙ sym l.well_formed.count)

  module _ (root : ℕ) (h : HasId w from plan.root_id root) where
    inside : Holds set root
    inside = (same-component w.cabling from h.set set h.component component).0 root h.holds

    named : IsReached w → NamesRoot w sent from plan.root_id (Some plan.gap) set root
    named r = record {
      act = act;
      component = component;
      named = names w set s.root root plan.root_id s.tree (reached-comes w r) (tree-there w l from plan s set component small) inside h.named;
    }

    -- ---- the tree

    moved : IsReached w → (t : Tree) × IsTree v set root t
    moved r =
        let n = (tree-there w l from plan s set component small).no_loop in
        let can = reached-enough sent root (act-reached (Config from plan.root_id true (Some plan.gap)) w sent (fits, accepted, act) r) in
        let t = moves no_holds w sent (quiet_turns_of sent) from plan.root_id (Some plan.gap) set root (reached-comes w r) fits accepted (named r) can n (turns-enough sent) in
        (t.0, subst (λ (u : CableWorld). IsTree u set root t.0) (sym quiet) (plainly (λ u. IsTree u set root t.0) (quiet_turns_of sent) sent t.1))

    pub tree-from : (parts : List Part) → AreParts v parts → Any (IsTreeFrom w.cabling from root) parts
    tree-from parts are = found w.cabling v cables from set root component (loopless-from w l from plan s set component small root inside) (from-there w l from plan s) (IsReached w) reached moved parts are

    -- the tree has as many hops as the one before
    pub gap-wanted :
        HopsStay w.cabling → IsWellFormed v → (parts : List Part) → AreParts v parts →
        Any (WantsGap from plan.gap) parts
    gap-wanted hops formed parts are = (
      f.0,
      f.1,
      f.2,
      f.3,
      record {
        holds = f.4.is.holds;
        root = root;
        list = f.4.is.list;
        order = f.4.is.order;
        outcome = f.4.is.outcome;
        tree = f.4.tree;
        bus = bus;
        emitted = f.4.emitted;
        hops = s.hops;
        are_hops = hops (labels (attrs_now w)) (labels (attrs_now v)) s.root root set s.tree f.4.tree s.hops old.there new.there old.component inside s.is.seen f.4.seen (bus-of w.cabling w l.well_formed refl s.root set old s.tree s.is.seen).bus bus.bus s.are_hops;
        gap_is = s.gap;
      },
    )
      where
        old : Loopless w.cabling s.root set
        old = loopless-from w l from plan s set component small s.root (tree-there w l from plan s set component small).holds_root

        new : Loopless w.cabling root set
        new = loopless-from w l from plan s set component small root inside

        f : Any (FoundTree w.cabling v from root) parts
        f = found-tree w.cabling v cables from set root component new (from-there w l from plan s) (IsReached w) reached moved parts are

        bus : IsBusTreeOf Ieee2000 f.4.tree
        bus = bus-of w.cabling v formed cables root set new f.4.tree f.4.seen

    -- ---- gap counts

    pub gap-of :
        length v.nodes ≡ length w.nodes → HaveGap v from plan.gap
    gap-of nodes other k is m = elim (slice_get_cases v.nodes k).1 [
      | inl found ↦ some-at (slice_get v.nodes k) found.0 (λ (y : PortNode). y.state.view.gap ≡ plan.gap) found.2 (∥∥₁_elim reached (Coded-set coded_ℕ found.0.state.view.gap plan.gap) (λ r. gap-at r k found.0 (here k other is m) found.2))
      | inr lacks ↦ absurd (let x = stood k (here k other is m) in omega (arith, lacks.0, nodes, slice_get_within w.nodes k x.0 x.1))
    ]
      where
        here : (k : ℕ) (other : ℕ) → IsComponent v.cabling from other → Holds other k → Holds set k
        here k other is m = (same-component w.cabling from other set (subst (λ (c : Wiring). IsComponent c from other) cables is) component).0 k m

        stood : (k : ℕ) → Holds set k → (x : PortNode) × (slice_get w.nodes k ≡ Some x)
        stood k m = let x = some-of (slice_get w.nodes k) _ ((tree-there w l from plan s set component small).ids k m) in (x.0, x.1)

        gap-at : IsReached w → (k : ℕ) (y : PortNode) → Holds set k → slice_get v.nodes k ≡ Some y → y.state.view.gap ≡ plan.gap
        gap-at r k y m at =
            let x = stood k m in
            let over : turns_to_over sent ≤ quiet_turns_of sent = omega (arith, turns-enough sent) in
            sets no_holds w sent (quiet_turns_of sent) from plan.root_id (Some plan.gap) set root k x.0 y (reached-comes w r) fits accepted (named r) over m x.1 (ap (λ (u : CableWorld). slice_get u.nodes k) (plain-quiet (quiet_turns_of sent) sent ∙ sym quiet) ∙ at)

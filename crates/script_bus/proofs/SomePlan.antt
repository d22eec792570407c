-- A plan has an answer: where it isn't refused it can be carried out.
use Rattle.std.proofs.Common.{◌≡◌, ◌+◌, ◌++◌, ◌==◌, ◌<◌, ℕ, true, List, [], Option, Some, None, IfSome, length, refl, sym, subst, ◌∙◌, ap, arith}
use Rattle.std.specs.Prelude.{Ok, Err}
use Rattle.std.specs.Option.{option_map}
use Rattle.std.specs.Str.{bytes_eq}
use Rattle.std.proofs.lemmas.List.Quantifiers.{position-Some}
use Rattle.self_id.specs.declared.standard.Standard.TheVariants.{Ieee2000}
use Rattle.topology_stack.specs.Tree.{Tree, walk}
use Rattle.topology_stack.specs.Elect.{elected, IsCandidate, IsHighest}
use Rattle.topology_stack.specs.OneAnswer.{NoListHasTwoTrees}
use Rattle.topology_stack.proofs.Lemmas.{is_highest}
use Rattle.cabling.specs.Existence.{HasComponent, ComponentsExist}
use Rattle.cabling.proofs.Lemmas.{shared}
use Rattle.cable_world.specs.declared.act.Act.{Act}
use Rattle.cable_world.specs.declared.act.Act.TheVariants.{Config}
use Rattle.cable_world.specs.World.{CableWorld, NodeNumber}
use Rattle.cable_world.specs.Lawful.{IsLawful}
use Rattle.cable_world.specs.Run.{IsReached}
use Rattle.cable_world.specs.Act.{ActLeads, act_fault}
use Rattle.cable_world.specs.Turn.{turns_after}
use Rattle.cable_world.proofs.Lemmas.{some-same, reached-lawful, act-reached}
use Rattle.outcomes.specs.Settled.{TreesStay, IdsNameOneNode, ConfigsMoveRoots, ConfigsSetGaps}
use Rattle.root_plan.proofs.Lemmas.{candidate_within}
use Rattle.settle.specs.declared.report.Report.{Report}
use Rattle.settle.specs.Report.{quiet_turns_of}
use Rattle.settle.specs.SomeWalk.{HasWalk, WalksExist}
use Rattle.settle.specs.Planned.{SuitsTree}
use Rattle.settle.proofs.Lemmas.{not-refused, packet-fits, suits, nodes-stay}
use Rattle.script_lines.specs.declared.kind.Kind.{Kind}
use Rattle.script_text.specs.PlanText.{plan_line}
use Rattle.script_text.specs.SomePlan.{HasPlan, PlansExist}
use Rattle.script_text.specs.SomeText.{HasReportText, QuietWorldsHaveTexts}
use Rattle.script_told.specs.Bus.{Bus, ReportedTree, node_named, tree_with, values_at}
use Rattle.script_told.specs.Step.{LineAnswer, HasManager, AtNamedNode, AtTree, AtManager, Plans, PlansAs, Settled, Within, id_of, node_with, notes_after_act, notes_after_report}
use Rattle.script_told.specs.SomeManager.{IsManaged, ReportedTreesAreManaged}
use Rattle.script_told.specs.SomeAnswer.{IsOfReached, IsReachedBus, HasAnswer, PlansHaveAnswers}
use Rattle.script_told.proofs.Lemmas.{known, within, if-test, act-leads, tree-managed}
use Rattle.script_bus.specs.codings.Standing.{StandsSince, StandsAs}
use Rattle.script_bus.proofs.Standing.{reported-stands}
use Rattle.script_bus.proofs.Planning.{holds-its, its-there}

pub stands-since : (w : CableWorld) (o : Option Report) → IfSome o (IsOfReached w) →
    IfSome o (λ r. StandsSince r w)
stands-since w None h = tt
stands-since w (Some report) h = record {
  before = h.world;
  reached = ∣ h.reached ∣₁;
  is = h.is;
  turns = h.turns;
  rests = h.rests;
}

-- where there is a manager there is a candidate
has-candidate : (tree : ReportedTree) (manager : NodeNumber)
    (has : HasManager tree (Some manager)) →
    (id : ℕ) × IsCandidate (walk has.shown) id
has-candidate tree manager has = by (elected has.shown) (is_highest (walk has.shown)) has.elects
  where
    by : (o : Option ℕ) → IsHighest (walk has.shown) o → Some manager ≡ option_map (node_with tree) o → (id : ℕ) × IsCandidate (walk has.shown) id
    by None high e = absurd cc
    by (Some id) high e = (id, high.0)

-- what a plan asks of the tree of a node
abbrev Inner : Bus → List ℕ → NodeNumber → ReportedTree → LineAnswer → Type 0
Inner bus name node tree r = (manager : Option NodeNumber) × HasManager tree manager × AtManager manager (PlansAs bus name node (id_of tree node)) r

module _
    (trees : NoListHasTwoTrees) (stay : TreesStay) (components : ComponentsExist) (walks : WalksExist) (plans : PlansExist)
    (texts : QuietWorldsHaveTexts) (managed : ReportedTreesAreManaged)
    (names-one : IdsNameOneNode) (moves : ConfigsMoveRoots) (sets : ConfigsSetGaps) where
  module _
      (bus : Bus) (h : IsReachedBus bus) (name : List ℕ) (node : NodeNumber)
      (there : node < length bus.world.cabling) (tree : ReportedTree)
      (settled : tree_with node bus.notes ≡ Some tree) (manager : NodeNumber) (has : HasManager tree (Some manager)) where
    abbrev w : CableWorld
    w = bus.world

    l : IsLawful w
    l = reached-lawful w h.reached

    c : HasComponent w.cabling node
    c = components w.cabling node l.well_formed.cabling there

    s : StandsAs w node tree
    s = reported-stands stay w node c.set c.is c.small bus.notes (stands-since w bus.notes.report h.reported) tree settled

    candidate : (id : ℕ) × IsCandidate (walk has.shown) id
    candidate = has-candidate tree manager has

    p : HasPlan has.shown
    p = plans has.shown candidate.0 has.is.bus.bus candidate.1

    abbrev root : NodeNumber
    root = node_with tree p.plan.root_id

    place : p.plan.root_id < length tree.order
    place =
        let m : IsManaged tree = tree-managed managed bus h node tree settled in
        let one : m.shown ≡ has.shown = trees Ieee2000 m.shown has.shown m.is.bus has.is.bus (m.is.emitted ∙ sym has.is.emitted) in
        omega (arith, candidate_within has.shown p.plan.root_id p.is.candidate, m.whole, ap (λ (t : Tree). length (walk t)) one)

    expected : HasWalk w.cabling root
    expected =
        let n = s.stands.is.no_loop in
        walks w.cabling root s.set n.core l.well_formed.cabling (its-there w l node tree s p.plan.root_id place)
        (shared w.cabling node root s.set l.well_formed.cabling s.component (holds-its w l node tree s p.plan.root_id place)) n.is_core n.empty

    suit : SuitsTree w node p.plan
    suit =
        suits trees w l node c.set there c.is c.small s.set tree.root s.stands.tree has.shown p.plan s.component s.stands.is has.is.bus (has.is.emitted ∙ s.stands.emitted)
        (record { candidate = p.is.candidate; hops = p.is.hops; gap = p.is.gap })

    abbrev packet : Act
    packet = Config node p.plan.root_id true (Some p.plan.gap)

    accepted : act_fault packet w ≡ None
    accepted = not-refused w l node p.plan suit

    sent : (v : CableWorld) × ActLeads packet w v
    sent = act-leads components packet w h.reached accepted

    sent-reached : IsReached sent.0
    sent-reached = act-reached packet w sent.0 (packet-fits w l node p.plan suit c.set c.is c.small, accepted, sent.1) h.reached

    abbrev after : CableWorld
    after = turns_after (quiet_turns_of sent.0) sent.0

    stay-nodes : length after.nodes ≡ length w.nodes
    stay-nodes = nodes-stay names-one moves sets w sent.0 after ∣ h.reached ∣₁ l node p.plan suit c.set c.is c.small accepted sent.1 refl

    t : HasReportText after bus.notes.names (bus.notes.reports + 1)
    t = texts sent.0 after bus.notes.names (bus.notes.reports + 1) sent-reached refl (h.named ∙ sym stay-nodes)

    carried : HasAnswer (Plans bus name node tree)
    carried =
        let sent-bus : Bus = record { world = sent.0; notes = notes_after_act bus.notes } in
        let after-bus : Bus = record { world = after; notes = notes_after_report (notes_after_act bus.notes) t.report } in
        record {
          answer = Ok (after-bus, plan_line bus.notes.names name root p.plan expected.order ++ t.text);
          is = record {
            shown = has.shown;
            is = has.is;
            plan = p.plan;
            planned = p.is;
            expected = expected.order;
            walk = expected.is;
            sent = sent-bus;
            sends = (accepted, sent.1, refl, refl);
            report = t.text;
            reports = (t.report, refl, t.is, refl, t.told);
            text_is = refl;
          };
        }

  module _ (bus : Bus) (h : IsReachedBus bus) (name : List ℕ) (node : NodeNumber) (there : node < length bus.world.cabling) where
    -- the tree is asked for twice
    again :
        (tree : ReportedTree) → tree_with node bus.notes ≡ Some tree →
        (manager : NodeNumber) → HasManager tree (Some manager) →
        (o : Option ReportedTree) → tree_with node bus.notes ≡ o →
        HasAnswer (AtTree o (Plans bus name node))
    again tree settled manager has None e = known (Err Kind.NotSettled)
    again tree settled manager has (Some t) e =
        let a = carried bus h name node there t e manager
        (subst (λ (x : ReportedTree). HasManager x (Some manager))
        (some-same tree t (sym settled ∙ e)) has) in
        record { answer = a.answer; is = a.is }

    by-manager :
        (tree : ReportedTree) → tree_with node bus.notes ≡ Some tree →
        (o : Option NodeNumber) → HasManager tree o →
        HasAnswer (AtManager o (PlansAs bus name node (id_of tree node)))
    by-manager tree settled None has = known (Err Kind.NoManager)
    by-manager tree settled (Some manager) has =
        let a =
        if-test ((values_at manager bus).bus_manager_id == id_of tree node)
        (Within bus (quiet_turns_of bus.world) (Settled bus node (Plans bus name node))) (λ r. r ≡ Err Kind.NotManager)
        (within bus (quiet_turns_of bus.world) (Settled bus node (Plans bus name node)) (again tree settled manager has (tree_with node bus.notes) refl))
        (known (Err Kind.NotManager)) in
        record { answer = a.answer; is = a.is }

    by-tree : (o : Option ReportedTree) → tree_with node bus.notes ≡ o →
        HasAnswer (AtTree o (Inner bus name node))
    by-tree None e = known (Err Kind.NotSettled)
    by-tree (Some tree) e =
        let m : IsManaged tree = tree-managed managed bus h node tree e in
        let a = by-manager tree e m.manager m.has in
        record { answer = a.answer; is = (m.manager, m.has, a.is) }

  by-node :
      (bus : Bus) → IsReachedBus bus → (name : List ℕ) (o : Option NodeNumber) → node_named bus.notes.names name ≡ o →
      HasAnswer (AtNamedNode o (λ node. Settled bus node (Inner bus name node)))
  by-node bus h name None e = known (Err Kind.NoNode)
  by-node bus h name (Some node) e =
      let found = position-Some (bytes_eq name) bus.notes.names node [] e in
      let there : node < length bus.world.cabling = omega (arith, found.0, h.named, (reached-lawful bus.world h.reached).well_formed.count) in
      let a = by-tree bus h name node there (tree_with node bus.notes) refl in
      record { answer = a.answer; is = a.is }

  pub some-plan : PlansHaveAnswers
  some-plan bus name h =
      let a = by-node bus h name (node_named bus.notes.names name) refl in
      record { answer = a.answer; is = a.is }

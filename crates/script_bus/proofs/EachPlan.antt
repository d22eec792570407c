-- A plan that was carried out comes out.
use Rattle.std.proofs.Common.{◌≡◌, ◌<◌, ℕ, List, [], length, sym, subst, ◌∙◌, ap, arith}
use Rattle.std.specs.Prelude.{Ok, Err}
use Rattle.std.specs.Str.{bytes_eq}
use Rattle.std.proofs.lemmas.List.Elements.{All-weaker}
use Rattle.std.proofs.lemmas.List.Quantifiers.{position-Some}
use Rattle.self_id.specs.declared.standard.Standard.TheVariants.{Ieee2000}
use Rattle.topology_stack.specs.Tree.{Tree, walk}
use Rattle.topology_stack.specs.OneAnswer.{NoListHasTwoTrees}
use Rattle.cabling.specs.Existence.{HasComponent, ComponentsExist}
use Rattle.cable_world.specs.World.{CableWorld, NodeNumber}
use Rattle.cable_world.specs.Unchanged.{ActKeepsNodes}
use Rattle.cable_world.specs.Lawful.{IsLawful}
use Rattle.cable_world.proofs.Lemmas.{reached-lawful}
use Rattle.outcomes.specs.Settled.{TreesStay, IdsNameOneNode, ConfigsMoveRoots, ConfigsSetGaps}
use Rattle.root_plan.proofs.Lemmas.{candidate_within}
use Rattle.settle.specs.Planned.{SuitsTree, HasId, HaveGap}
use Rattle.settle.proofs.Lemmas.{suits, nodes-stay, tree-from, gap-of}
use Rattle.script_lines.specs.declared.kind.Kind.{Kind}
use Rattle.script_lines.specs.declared.command.Command.{Command}
use Rattle.script_lines.specs.declared.command.Command.TheVariants.{Plan}
use Rattle.script_told.specs.Bus.{Bus, Notes}
use Rattle.script_told.specs.Step.{LineAnswer, Does, node_with}
use Rattle.script_told.specs.Script.{Stage, StageAnswer, running, bus_of, onwards, DoesAtStage}
use Rattle.script_told.specs.Run.{Entry}
use Rattle.script_told.specs.EachPlan.{IsCarriedOut, ComesOut, EachPlanComesOut}
use Rattle.script_told.specs.SomeAnswer.{IsReachedBus}
use Rattle.script_told.specs.SomeManager.{IsManaged, ReportedTreesAreManaged}
use Rattle.script_text.specs.ReportText.{Names, IsReportText}
use Rattle.script_text.specs.PlanText.{plan_line}
use Rattle.script_told.specs.PrintedTree.{PrintsGap, PrintsTree}
use Rattle.script_told.proofs.Lemmas.{one-walk, prints-gap, prints-tree, tree-managed, stage-in, printed-in, sound-bus, plan-carried, IsDone, each-done}
use Rattle.script_bus.specs.codings.Standing.{StandsAs}
use Rattle.script_bus.proofs.Standing.{reported-stands}
use Rattle.script_bus.proofs.Planning.{its-id}
use Rattle.script_bus.proofs.SomePlan.{stands-since}

module _
    (trees : NoListHasTwoTrees) (keeps : ActKeepsNodes) (stay : TreesStay) (components : ComponentsExist)
    (managed : ReportedTreesAreManaged) (names-one : IdsNameOneNode) (moves : ConfigsMoveRoots)
    (sets : ConfigsSetGaps) where
  module _ (bus : Bus) (h : IsReachedBus bus) (name : List ℕ) (after : Bus) (text : List ℕ) (c : IsCarriedOut bus name after text) where
    abbrev w : CableWorld
    w = bus.world

    l : IsLawful w
    l = reached-lawful w h.reached

    there : c.node < length w.cabling
    there =
        let found = position-Some (bytes_eq name) bus.notes.names c.node [] c.named in
        omega (arith, found.0, h.named, l.well_formed.count)

    k : HasComponent w.cabling c.node
    k = components w.cabling c.node l.well_formed.cabling there

    s : StandsAs w c.node c.tree
    s = reported-stands stay w c.node k.set k.is k.small bus.notes (stands-since w bus.notes.report h.reported) c.tree c.settled

    abbrev shown : Tree
    shown = c.carried.shown

    place : c.carried.plan.root_id < length c.tree.order
    place =
        let m : IsManaged c.tree = tree-managed managed bus h c.node c.tree c.settled in
        let one : m.shown ≡ shown = trees Ieee2000 m.shown shown m.is.bus c.carried.is.bus (m.is.emitted ∙ sym c.carried.is.emitted) in
        omega (arith, candidate_within shown c.carried.plan.root_id c.carried.planned.candidate, m.whole, ap (λ (t : Tree). length (walk t)) one)

    suit : SuitsTree w c.node c.carried.plan
    suit =
        suits trees w l c.node k.set there k.is k.small s.set c.tree.root s.stands.tree shown c.carried.plan s.component s.stands.is c.carried.is.bus
        (c.carried.is.emitted ∙ s.stands.emitted)
        (record { candidate = c.carried.planned.candidate; hops = c.carried.planned.hops; gap = c.carried.planned.gap })

    abbrev root : NodeNumber
    root = node_with c.tree c.carried.plan.root_id

    id-is : HasId w c.node c.carried.plan.root_id root
    id-is = its-id w l c.node c.tree s c.carried.plan.root_id place

    stay-nodes : length after.world.nodes ≡ length w.nodes
    stay-nodes =
        nodes-stay names-one moves sets w c.carried.sent.world after.world ∣ h.reached ∣₁ l c.node c.carried.plan suit k.set k.is k.small
        c.carried.sends.0 c.carried.sends.1 c.carried.reports.1

    is-root : PrintsTree w.cabling c.node root after text
    is-root =
        let is = c.carried.reports in
        subst (PrintsTree w.cabling c.node root after) (sym c.carried.text_is)
        (prints-tree w.cabling c.node root after is.0 c.carried.report (plan_line bus.notes.names name root c.carried.plan c.carried.expected) after.notes.reports
        (ap (λ (n : Notes). n.report) is.3)
        (tree-from names-one moves sets w c.carried.sent.world after.world ∣ h.reached ∣₁ l c.node c.carried.plan suit k.set k.is k.small
        c.carried.sends.0 c.carried.sends.1 is.1 root id-is is.0.parts is.2.parts)
        (subst (λ (ns : Names). IsReportText ns after.notes.reports is.0 c.carried.report) (sym (ap (λ (n : Notes). n.names) is.3)) is.4))

    in-order : is-root.tree.order ≡ c.carried.expected
    in-order = one-walk w.cabling root is-root.tree.order c.carried.expected is-root.tree.walk c.carried.walk

    have-gap : HaveGap after.world c.node c.carried.plan.gap
    have-gap =
        gap-of names-one moves sets w c.carried.sent.world after.world ∣ h.reached ∣₁ l c.node c.carried.plan suit k.set k.is k.small
        c.carried.sends.0 c.carried.sends.1 c.carried.reports.1 root id-is stay-nodes

    in-lines : IsReachedBus after → PrintsGap after c.node c.carried.plan.gap
    in-lines left =
        let is = c.carried.reports in
        prints-gap trees after left is.0 (ap (λ (n : Notes). n.report) is.3) is.2.parts c.node c.carried.plan.gap have-gap

  comes :
      (e : Entry) (name : List ℕ) → IsDone e → (r : LineAnswer) → Does (bus_of e.before) (Plan name) r →
      ◌≡◌ {A = StageAnswer} (Ok (e.after, e.text)) (onwards r) → ComesOut e name
  comes e name is (Ok (bus, text)) does same =
      let said : e.text ≡ text = texts e.after e.text bus text same in
      let carried : IsCarriedOut (bus_of e.before) name bus e.text =
      subst (IsCarriedOut (bus_of e.before) name bus) (sym said) (plan-carried (bus_of e.before) name bus text does) in
      let h : IsReachedBus (bus_of e.before) = sound-bus e.before is.sound in
      let after_is : e.after ≡ running bus = stages e.after e.text bus text same in
      let left : IsReachedBus bus = subst (λ (s : Stage). IsReachedBus (bus_of s)) after_is (sound-bus e.after is.left) in
      record {
        after = bus;
        after_is = after_is;
        is = carried;
        root = is-root (bus_of e.before) h name bus e.text carried;
        order = in-order (bus_of e.before) h name bus e.text carried;
        gaps = have-gap (bus_of e.before) h name bus e.text carried;
        lines = in-lines (bus_of e.before) h name bus e.text carried left;
      }
    where
      texts : (next : Stage) (t : List ℕ) (b : Bus) (u : List ℕ) → ◌≡◌ {A = StageAnswer} (Ok (next, t)) (Ok (running b, u)) → t ≡ u
      texts next t b u f = ap printed-in f

      stages : (next : Stage) (t : List ℕ) (b : Bus) (u : List ℕ) → ◌≡◌ {A = StageAnswer} (Ok (next, t)) (Ok (running b, u)) → next ≡ running b
      stages next t b u f = ap stage-in f
  comes e name is (Err kind) does same = absurd (no e.after e.text kind same)
    where
      no : (next : Stage) (t : List ℕ) (x : Kind) → ◌≡◌ {A = StageAnswer} (Ok (next, t)) (Err x) → ⊥
      no next t x f = absurd cc

  at-plan : (e : Entry) → IsDone e → (name : List ℕ) → e.command ≡ Plan name → ComesOut e name
  at-plan e is name same =
      let f : DoesAtStage e.before (Plan name) (Ok (e.after, e.text)) =
      subst (λ (c : Command). DoesAtStage e.before c (Ok (e.after, e.text))) same is.follows in
      comes e name is f.0 f.1 f.2

  pub each-plan : EachPlanComesOut
  each-plan bytes run x =
      All-weaker IsDone (λ (e : Entry). (name : List ℕ) → e.command ≡ Plan name → ComesOut e name) at-plan run.entries
      (each-done trees keeps bytes run x).each

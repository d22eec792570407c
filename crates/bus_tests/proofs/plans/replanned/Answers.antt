use Rattle.std.proofs.Common.{rules, ◌≡◌, ◌∙◌, ◌<◌, true, All, get_or, length, subst, sym, ap, arith}
use Rattle.std.proofs.lemmas.List.Elements.{All-get_or}
use Rattle.std.proofs.lemmas.List.{get_or_default}
use Rattle.cabling.specs.NodeSet.{Holds}
use Rattle.cabling.specs.Wiring.{Wiring}
use Rattle.cabling.specs.Component.{IsComponent}
use Rattle.settle.specs.declared.report.Part.{Part}
use Rattle.settle.specs.Report.{IsPart}
use Rattle.settle.specs.Reported.{IsReported, ReportsTree}
use Rattle.settle.specs.Planned.{SuitsTree, PlansSuit}
use Rattle.bus_tests.proofs.plans.replanned.Goals as goal

pub settle_plan-requires-clause-suits : goal.settle_plan-requires-clause-suits
settle_plan-requires-clause-suits g c =
    let w = g.W.WorldRun.world c.args.world.now in
    let parts = c.as_slice-parts.result.now in
    let each : All (IsPart w) parts = subst (All (IsPart w)) (sym c.as_slice-parts.ensures) c.requires.report.parts.each in
    let some : 0 < length parts = omega arith in
    let is : IsPart w (get_or parts 0 c.index-parts-0-2.result) = All-get_or (IsPart w) parts 0 c.index-parts-0-2.result some each in
    let part = get_or parts 0 c.index-parts-0-2.result in
    let tree : ReportsTree w part.nodes c.in-Tree.root c.in-Tree.list c.in-Tree.order = subst (IsReported w part.nodes) c.in-Tree.is is.outcome in
    let yes : c.has.result ≡ true = search rules in
    let holds : Holds part.nodes c.args.from = subst (λ (p : Part). Holds p.nodes c.args.from) (get_or_default parts 0 c.index-parts-0.result c.index-parts-0-2.result some) (c.has.ensures.0 yes) in
    let own : IsComponent w.cabling c.args.from part.nodes = subst (λ (d : Wiring). IsComponent d c.args.from part.nodes) c.cabling-2.ensures
    (c.components_are_whole.ensures.shared is.node c.args.from part.nodes (subst (λ (d : Wiring). IsComponent d is.node part.nodes) (sym c.cabling-2.ensures) is.component) holds) in
    c.plans_suit.ensures part.nodes c.in-Tree.root tree.tree c.in_ok-tree.tree c.in-Some.plan own tree.is c.in_ok-tree.ensures.found.0 (c.in_ok-tree.ensures.found.1 ∙ c.as_slice.ensures ∙ tree.emitted) (record {
      candidate = c.in-Some.ensures.plan.candidate;
      hops = c.in-Some.ensures.plan.hops;
      gap = c.in-Some.ensures.plan.gap;
    })

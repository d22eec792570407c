use Rattle.std.proofs.Common.{◌<◌, ℕ, List, All, get_or, length, sym, subst, ◌∙◌, ap, arith}
use Rattle.std.proofs.lemmas.List.{get_or_default}
use Rattle.cable_world.specs.World.{CableWorld}
use Rattle.cable_world.proofs.Lemmas.{lawful-now}
use Rattle.settle.specs.Planned.{PlansSuit}
use Rattle.script_text.specs.PlanText.{plan_line}
use Rattle.script_told.specs.Step.{node_with}
use Rattle.script_bus.specs.Running.{reported}
use Rattle.script_bus.proofs.Planning.{its-there, plan-suits, plan-place, is-elected}
use Rattle.script_bus.proofs.bus.Bus.planned.Goals as goal

pub plans_suit-requires-clause-there : goal.plans_suit-requires-clause-there
plans_suit-requires-clause-there c =
    let w = c.args.self.now.world in
    let lawful = lawful-now w c.buses_are_sound.ensures.reached in
    omega (arith, c.requires.there, lawful.well_formed.count, ap (λ (v : CableWorld). length v.cabling) c.world.ensures.is)

pub chosen-plan-requires : goal.chosen-plan-requires
chosen-plan-requires c =
    is-elected c.one_tree.ensures (reported c.args.tree) c.requires.managed.0 c.requires.managed.1 c.in_ok-shown.shown
    c.in_ok-shown.ensures.tree.0 c.in_ok-shown.ensures.tree.1

pub expected-expected-requires-clause-place : goal.expected-expected-requires-clause-place
expected-expected-requires-clause-place c =
    plan-place c.one_tree.ensures c.args.self.now.notes.names (reported c.args.tree) c.requires.named c.in_ok-shown.shown
    c.in_ok-shown.ensures.tree.0 c.in_ok-shown.ensures.tree.1 c.chosen-plan.result c.chosen-plan.ensures

pub bounds-order-plan : goal.bounds-order-plan
bounds-order-plan c =
    subst (λ (ns : List ℕ). c.chosen-plan.result.root_id < length ns) (sym c.as_slice-order.ensures.value)
    (plan-place c.one_tree.ensures c.args.self.now.notes.names (reported c.args.tree) c.requires.named c.in_ok-shown.shown
    c.in_ok-shown.ensures.tree.0 c.in_ok-shown.ensures.tree.1 c.chosen-plan.result c.chosen-plan.ensures)

pub plan_line-requires-clause-root : goal.plan_line-requires-clause-root
plan_line-requires-clause-root c =
    let w = c.args.self.now.world in
    let lawful = lawful-now w c.buses_are_sound.ensures.reached in
    let place = plan-place c.one_tree.ensures c.args.self.now.notes.names (reported c.args.tree) c.requires.named c.in_ok-shown.shown
    c.in_ok-shown.ensures.tree.0 c.in_ok-shown.ensures.tree.1 c.chosen-plan.result c.chosen-plan.ensures in
    let there = its-there w lawful c.args.node (reported c.args.tree) c.stands.ensures c.chosen-plan.result.root_id place in
    let order = ap (λ (ns : List ℕ). get_or ns c.chosen-plan.result.root_id 0) c.as_slice-order.ensures.value in
    omega (arith, there, order, get_or_default c.args.tree.order.now c.chosen-plan.result.root_id 0 0 place, c.buses_are_sound.ensures.names, lawful.well_formed.count, ap length c.names.ensures)

pub plan_line-requires-clause-nodes : goal.plan_line-requires-clause-nodes
plan_line-requires-clause-nodes c =
    subst (λ (ns : List ℕ). All (λ k. k < length c.names.result.now) ns) (sym c.as_slice.ensures.value)
    (λ i d inside. omega (arith, c.expected-expected.ensures.nodes i d inside, ap length c.names.ensures))

pub returns-clause-is : goal.returns-clause-is
returns-clause-is c =
    let tree = reported c.args.tree in
    let plan = c.chosen-plan.result in
    let names = c.args.self.now.notes.names in
    let place = plan-place c.one_tree.ensures names tree c.requires.named c.in_ok-shown.shown
    c.in_ok-shown.ensures.tree.0 c.in_ok-shown.ensures.tree.1 plan c.chosen-plan.ensures in
    record {
      shown = c.in_ok-shown.shown;
      is = record { bus = c.in_ok-shown.ensures.tree.0; emitted = c.in_ok-shown.ensures.tree.1 };
      planned = c.chosen-plan.ensures;
      expected = c.expected-expected.result;
      walk = c.expected-expected.ensures.walk;
      line_is =
          c.in_ok-line.ensures
          ∙ ap (λ (ns : List (List ℕ)). plan_line ns c.args.name.now (get_or c.as_slice-order.result.now plan.root_id 0) plan c.as_slice.result.now) c.names.ensures
          ∙ ap (λ (ns : List ℕ). plan_line names c.args.name.now (get_or ns plan.root_id 0) plan c.as_slice.result.now) c.as_slice-order.ensures.value
          ∙ ap (λ (r : ℕ). plan_line names c.args.name.now r plan c.as_slice.result.now) (get_or_default c.args.tree.order.now plan.root_id 0 0 place)
          ∙ ap (λ (e : List ℕ). plan_line names c.args.name.now (node_with tree plan.root_id) plan e) c.as_slice.ensures.value;
    }

pub returns-clause-suits : goal.returns-clause-suits
returns-clause-suits c =
    let w = c.args.self.now.world in
    let lawful = lawful-now w c.buses_are_sound.ensures.reached in
    plan-suits w lawful c.args.node (reported c.args.tree) c.stands.ensures (subst (λ (v : CableWorld). PlansSuit v c.args.node) c.world.ensures.is c.plans_suit.ensures) c.in_ok-shown.shown
    c.in_ok-shown.ensures.tree.0 c.in_ok-shown.ensures.tree.1 c.chosen-plan.result c.chosen-plan.ensures

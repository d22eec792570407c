use Rattle.std.proofs.Common.{◌∙◌, inl, inr, [], map, slice_get, ap}
use Rattle.port_state.specs.declared.timing.Timing.{Timing}
use Rattle.port_state.specs.Timing.{usual_timing}
use Rattle.port_state.specs.Machine.{PortNode}
use Rattle.cable_world.specs.World.{CableWorld}
use Rattle.cable_world.specs.running.NodeActs.{step_of, Suits, note_step}
use Rattle.cable_world.specs.Parts.{world_record}
use Rattle.cable_world.proofs.Options.{some-of, some-at}
use Rattle.cable_world.proofs.running.Acting.{node-then, both}
use Rattle.cable_world.proofs.running.Touched.{kept-then}
use Rattle.cable_world.proofs.steps.step_both.Goals as goal

pub step_node-requires-2-clause-suits : goal.step_node-requires-2-clause-suits
step_node-requires-2-clause-suits g c =
    let f = g.M.PortMachine.record_of in
    let r = step_of c.args.first.1 in
    let usual : Timing = usual_timing 0 in
    let w : CableWorld = world_record 0 usual [] (map f c.args.machines.now) c.args.wires.now c.args.changed.now c.args.turns in
    let x = some-of (slice_get (map f c.args.machines.now) c.args.first.0)
    (λ (n : PortNode). Suits c.args.first.1 n) c.requires.first_suits in
    let y = some-of (slice_get (map f c.args.machines.now) c.args.second.0)
    (λ (n : PortNode). Suits c.args.second.1 n) c.requires.second_suits in
    let e = c.in_ok-step_node.ensures.leads 0 usual [] in
    let node = ap (λ (v : CableWorld). slice_get v.nodes c.args.second.0) e ∙ node-then r r c.args.first.0 c.args.second.0 w x.0 x.1 c.requires.apart ∙ y.1 in
    some-at _ y.0 _ node y.2

pub returns-clause-leads : goal.returns-clause-leads
returns-clause-leads g c d t w =
    let f = g.M.PortMachine.record_of in
    let r = step_of c.args.first.1 in
    let s = step_of c.args.second.1 in
    let v : CableWorld = world_record d t w (map f c.args.machines.now) c.args.wires.now c.args.changed.now c.args.turns in
    let x = some-of (slice_get (map f c.args.machines.now) c.args.first.0)
    (λ (n : PortNode). Suits c.args.first.1 n) c.requires.first_suits in
    let y = some-of (slice_get (map f c.args.machines.now) c.args.second.0)
    (λ (n : PortNode). Suits c.args.second.1 n) c.requires.second_suits in
    c.in_ok-step_node-2.ensures.leads d t w ∙ ap (note_step c.args.second.0 s) (c.in_ok-step_node.ensures.leads d t w)
    ∙ both r s c.args.first.0 c.args.second.0 v x.0 x.1 c.requires.apart y.0 y.1

pub returns-clause-machines : goal.returns-clause-machines
returns-clause-machines g c =
    kept-then _ _ _ _ _ _ (λ k e. inl e) (λ k e. inr e) c.in_ok-step_node.ensures.machines c.in_ok-step_node-2.ensures.machines

pub returns-clause-wires : goal.returns-clause-wires
returns-clause-wires g c =
    kept-then _ _ _ _ _ _ (λ k e. inl e) (λ k e. inr e) c.in_ok-step_node.ensures.wires c.in_ok-step_node-2.ensures.wires

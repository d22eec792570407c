use Rattle.std.proofs.Common.{◌<◌, length, arith, slice_index_or}
use Rattle.std.proofs.lemmas.List.{get_or_default}
use Rattle.cable_world.specs.running.NodeActs.{step_of, Suits}
use Rattle.cable_world.proofs.running.Acting.{from-some, step-is}
use Rattle.cable_world.proofs.running.Touched.{kept-set}
use Rattle.cable_world.proofs.steps.step_node.Goals as goal

pub step_one-requires : goal.step_one-requires
step_one-requires g c =
    let at = c.args.node in
    let ms = c.args.machines.now in
    from-some g.M.PortMachine.record_of (λ x. Suits c.args.act x) ms at
    (slice_index_or ms at c.index-machines-node.result) c.requires.suits (get_or_default ms at c.index-machines-node.result _ c.requires.exists)

pub returns-clause-leads : goal.returns-clause-leads
returns-clause-leads g c d t w =
    let at = c.args.node in
    let ms = c.args.machines.now in
    let rows = c.args.wires.now in
    let changed = c.args.changed.now in
    let row_in : at < length rows = omega (arith, c.requires.rows, c.requires.exists) in
    let change_in : at < length changed = omega (arith, c.requires.changes, c.requires.exists) in
    step-is g.M.PortMachine.record_of (step_of c.args.act) d t w c.args.turns ms rows changed at
    (slice_index_or ms at c.index-machines-node.result) c.step_one.new.machine
    (slice_index_or rows at c.index-wires-node.result) c.step_one.new.wires (slice_index_or changed at 0) c.in_ok-changed.field-0
    c.requires.exists c.requires.rows c.requires.changes
    (get_or_default ms at c.index-machines-node.result _ c.requires.exists)
    (get_or_default rows at c.index-wires-node.result _ row_in) (get_or_default changed at 0 _ change_in)
    c.in_ok-changed.ensures.node c.in_ok-changed.ensures.sent c.in_ok-changed.ensures.changed

pub returns-clause-machines : goal.returns-clause-machines
returns-clause-machines g c = kept-set c.args.node c.args.machines.now c.step_one.new.machine

pub returns-clause-wires : goal.returns-clause-wires
returns-clause-wires g c = kept-set c.args.node c.args.wires.now c.step_one.new.wires

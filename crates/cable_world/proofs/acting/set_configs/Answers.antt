use Rattle.std.proofs.Common.{◌≡◌, ◌∙◌, ◌<◌, List, map, length, get_or, slice_index_or, ap, sym, arith}
use Rattle.std.proofs.lemmas.List.{length-map, map-set, get_or_default}
use Rattle.std.proofs.Math.ListN.{get_or-map}
use Rattle.port_state.specs.Config.{config_packet}
use Rattle.port_state.specs.Machine.{PortNode, node_set_config}
use Rattle.cable_world.specs.Act.{change_in_set}
use Rattle.cable_world.proofs.running.Mixed.{mixed-set, mixed-all, next-is}
use Rattle.cable_world.proofs.running.Acting.{told-length, told-at, is-told}
use Rattle.cable_world.proofs.acting.set_configs.Goals as goal

pub loop-node-preserved : goal.loop-node-preserved
loop-node-preserved g c =
    let f = g.M.PortMachine.record_of in
    let k = c.loop-node.node in
    let ms = c.loop-node.machines in
    let change = node_set_config (config_packet c.args.root_id c.args.force c.args.gap) in
    let old : List PortNode = map f c.args.machines.now in
    let new : List PortNode = change_in_set c.args.set change 0 old in
    let m = slice_index_or ms k c.index-machines-node.result in
    let x : PortNode = f m in
    let inside : k < length ms = omega (arith, c.loop-node.auto.machines, c.loop-node-test.true) in
    let within : k < length old = omega (arith, length-map c.args.machines.now f, c.loop-node-test.true) in
    let at : x ≡ get_or (map f ms) k x = ap f (get_or_default ms k c.index-machines-node.result m inside) ∙ sym (get_or-map f ms k m) in
    let was : x ≡ get_or old k x = next-is k new old (map f ms) x (told-length c.args.set change 0 old) within c.loop-node.invariant at in
    map-set f ms k c.set_config.new.machine
    ∙ mixed-set k new old (map f ms) (f c.set_config.new.machine) x (told-length c.args.set change 0 old) within c.loop-node.invariant
    (c.set_config.ensures ∙ told-at c.args.set change 0 k old c.has-hears.result x x within was (is-told c.args.set k c.has-hears.result c.has-hears.ensures))

pub returns : goal.returns
returns g c =
    let f = g.M.PortMachine.record_of in
    let change = node_set_config (config_packet c.args.root_id c.args.force c.args.gap) in
    let old : List PortNode = map f c.args.machines.now in
    c.loop-node.invariant
    ∙ mixed-all c.loop-node.node (change_in_set c.args.set change 0 old) old (told-length c.args.set change 0 old)
    (omega (arith, length-map c.args.machines.now f, c.loop-node-test.false))

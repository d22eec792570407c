use Rattle.std.proofs.Common.{◌≡◌, map}
use Rattle.port_state.specs.Config.{config_packet}
use Rattle.port_state.specs.Machine.{node_set_config}
use Rattle.cable_world.specs.Act.{change_in_set}
use Rattle.cable_world.proofs.running.Mixed.{mixed}
use Rattle.cable_world.proofs.acting.set_configs.Given as goal

-- the first nodes have heard the packet
abbrev pub invariant-loop-node : goal.invariant-loop-node
invariant-loop-node g l =
    let old = map g.M.PortMachine.record_of l.initial.machines in
    map g.M.PortMachine.record_of l.machines
    ≡ mixed l.node (change_in_set l.set (node_set_config (config_packet l.root_id l.force l.gap)) 0 old) old

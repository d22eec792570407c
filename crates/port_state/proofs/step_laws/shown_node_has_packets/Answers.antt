use Rattle.port_state.proofs.Shown.{shown-is_node}
use Rattle.port_state.proofs.Shown.{node_count-own_group}
use Rattle.port_state.proofs.step_laws.shown_node_has_packets.Goals as goal

pub returns-clause-node : goal.returns-clause-node
returns-clause-node c = shown-is_node

pub returns-clause-one : goal.returns-clause-one
returns-clause-one c = node_count-own_group

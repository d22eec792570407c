-- The node that a `PackedMachine` stands for.
use Rattle.port_state.specs.Machine.{PortNode}
use Rattle.phy_machine.specs.declared.packed.PackedMachine.{PackedMachine}
use Rattle.phy_machine.specs.Field.{field_node}

abbrev pub packed_node : PackedMachine → PortNode
packed_node m = field_node m.machine

-- The node that a `FieldMachine` stands for.
use Rattle.port_state.specs.Clock.{IsRegular}
use Rattle.port_state.specs.Machine.{PortNode}
use Rattle.phy_machine.specs.declared.field.FieldMachine.{FieldMachine}
use Rattle.phy_machine.specs.Clock.{clock_in, regular_of}

abbrev pub field_node : FieldMachine → PortNode
field_node m = record { state = m.state; coins = m.coins; clock = clock_in m.clock }

-- its clock is regular
pub field_regular : (m : FieldMachine) → IsRegular (field_node m).clock
field_regular m = regular_of m.clock.gap m.clock.left

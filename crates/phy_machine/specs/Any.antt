-- The node that an `AnyMachine` stands for.
use Rattle.port_state.specs.Clock.{IsRegular}
use Rattle.port_state.specs.Machine.{PortNode}
use Rattle.port_state.specs.Valid.{IsValid}
use Rattle.phy_machine.specs.declared.any.AnyMachine.{AnyMachine}
use Rattle.phy_machine.specs.declared.any.AnyMachine.TheVariants.{Field, Packed}
use Rattle.phy_machine.specs.Field.{field_node, field_regular}
use Rattle.phy_machine.specs.Packed.{packed_node}

abbrev pub any_node : AnyMachine → PortNode
any_node (Field m) = field_node m
any_node (Packed m) = packed_node m

-- its record is valid
pub any_valid : (m : AnyMachine) → IsValid (any_node m).state
any_valid (Field m) = m.valid
any_valid (Packed m) = m.machine.valid

-- its clock is regular
pub any_regular : (m : AnyMachine) → IsRegular (any_node m).clock
any_regular (Field m) = field_regular m
any_regular (Packed m) = field_regular m.machine

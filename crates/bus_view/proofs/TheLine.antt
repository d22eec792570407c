-- The value of a fault has what the line of the fault has.
use Rattle.std.proofs.Common.{refl}
use Rattle.capture_reading.specs.Line.{refusal_of, fault_line}
use Rattle.bus_view.specs.Json.{FaultsTellTheirLines}

pub tells : FaultsTellTheirLines
unfolding fault_line
tells fault = record { said = refusal_of fault; line_is = refl; value_is = refl }

-- A law: the value of a capture's fault has what the line of the fault has.
use Rattle.std.specs.Prelude.{◌≡◌}
use Rattle.capture_reading.specs.declared.fault.CaptureFault.{CaptureFault}
use Rattle.capture_reading.specs.Line.{Refusal, fault_line, refusal_line}
use Rattle.bus_json.specs.Refusal.{refusal_members, with_refusal, fault_value}

-- the pair, the kind and the counts are the same
pub record TellsTheLine (fault : CaptureFault) : Type 0 where
  pub said : Refusal
  pub line_is : fault_line fault ≡ refusal_line said
  pub value_is : fault_value fault ≡ with_refusal (refusal_members said)

abbrev pub FaultsTellTheirLines : Type 0
FaultsTellTheirLines = (fault : CaptureFault) → TellsTheLine fault

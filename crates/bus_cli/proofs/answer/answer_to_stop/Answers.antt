use Rattle.std.proofs.Common.{Err, subst}
use Rattle.capture_reading.specs.declared.fault.CaptureStop.{CaptureStop}
use Rattle.bus_cli.specs.Form.{standard_of}
use Rattle.bus_cli.specs.codings.Reading.{IsReadAs}
use Rattle.bus_cli.proofs.Ends.{capture_refused}
use Rattle.bus_cli.proofs.answer.answer_to_stop.Goals as goal

pub returns-in-Fault-clause-answer : goal.returns-in-Fault-clause-answer
returns-in-Fault-clause-answer c = λ form bytes reads.
    capture_refused form bytes c.in-Fault.fault _
    (subst (λ (s : CaptureStop). IsReadAs (standard_of form) bytes (Err s)) c.in-Fault.is reads) c.fault_line.ensures

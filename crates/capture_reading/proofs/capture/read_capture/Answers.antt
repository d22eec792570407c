use Rattle.std.proofs.Common.{List, ℕ, Err}
use Rattle.std.proofs.lemmas.Result.{err_from_is_err_and}
use Rattle.topology_stack.specs.Tree.{Tree}
use Rattle.capture_reading.specs.declared.fault.CaptureFault.{CaptureFault}
use Rattle.capture_reading.specs.declared.fault.CaptureStop.{CaptureStop}
use Rattle.capture_reading.specs.declared.fault.CaptureStop.TheVariants.{Fault, Memory}
use Rattle.capture_reading.specs.Capture.{CaptureRefused}
use Rattle.capture_reading.specs.Stop.{IfFault}
use Rattle.capture_reading.proofs.capture.read_capture.Goals as goal

-- what holds of a fault holds whatever was to be answered
handed_on : (A B : Type 0) (stop : CaptureStop) (P : CaptureFault → Type 0) → IfFault {A = A} (Err stop) P → IfFault {A = B} (Err stop) P
handed_on A B (Fault f) P h = h
handed_on A B (Memory e) P h = tt

pub returns-in_err-packets-clause-fault : goal.returns-in_err-packets-clause-fault
returns-in_err-packets-clause-fault c =
    let p = err_from_is_err_and c.from_residual.result c.from_residual.ensures.1 in
    rw (p.1, p.2) (handed_on (List ℕ) Tree c.in_err-packets.field-0.0 (CaptureRefused c.args.standard c.args.bytes.now) (c.in_err-packets.ensures.fault c.args.standard))

-- The status of a call.
use Rattle.std.specs.Prelude.{ℕ, Result, Ok, Err}
use Rattle.capture_import.specs.declared.outcome.Outcome.{Outcome}
use Rattle.capture_import.specs.declared.outcome.Outcome.TheVariants.{Written, Refused}
use Rattle.capture_import.specs.declared.stop.StreamStop.{StreamStop}
use Rattle.capture_import.specs.declared.stop.StreamStop.TheVariants.{ReadFault, TooLong, WriteFault, Memory}

-- 0 where a capture was written, 1 where the input is refused
abbrev pub import_status : Result Outcome StreamStop → ℕ
import_status (Ok (Written taken)) = 0
import_status (Ok (Refused f)) = 1
import_status (Err ReadFault) = 3
import_status (Err WriteFault) = 4
import_status (Err (Memory error)) = 5
import_status (Err TooLong) = 6

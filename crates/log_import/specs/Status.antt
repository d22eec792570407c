-- The status of a call.
use Rattle.std.specs.Prelude.{ℕ, Result, Ok, Err}
use Rattle.log_import.specs.declared.outcome.Outcome.{Outcome}
use Rattle.log_import.specs.declared.outcome.Outcome.TheVariants.{Written, TooFew, IsError, PacketsMissing}
use Rattle.reset_list.specs.declared.stop.LogStop.{LogStop}
use Rattle.reset_list.specs.declared.stop.LogStop.TheVariants.{ReadFault, TooLong, WriteFault, Memory}

-- 0 where a capture was written, 1 where the log has no such reset that is judged
abbrev pub reset_status : Result Outcome LogStop → ℕ
reset_status (Ok (Written at)) = 0
reset_status (Ok (TooFew count)) = 1
reset_status (Ok (IsError at)) = 1
reset_status (Ok (PacketsMissing at count)) = 1
reset_status (Err ReadFault) = 3
reset_status (Err WriteFault) = 4
reset_status (Err (Memory error)) = 5
reset_status (Err TooLong) = 6

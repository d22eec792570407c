-- The status of what a log or a dump came to. No public contract cites this file.
use Rattle.std.specs.Prelude.{ℕ, Bool, Result, Ok, Err}
use Rattle.reset_list.specs.declared.stop.LogStop.{LogStop}
use Rattle.reset_list.specs.declared.stop.LogStop.TheVariants.{ReadFault, WriteFault, TooLong, Memory}
use Rattle.bus_view.specs.Log.{status_if}

abbrev pub log_status : Result Bool LogStop → ℕ
log_status (Ok bad) = status_if bad
log_status (Err ReadFault) = 3
log_status (Err WriteFault) = 4
log_status (Err TooLong) = 6
log_status (Err (Memory error)) = 5

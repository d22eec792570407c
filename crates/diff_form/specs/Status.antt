-- The status of a call.
use Rattle.std.specs.Prelude.{ℕ, Result, Ok, Err}
use Rattle.diff_form.specs.declared.outcome.Outcome.{Outcome}
use Rattle.diff_form.specs.declared.outcome.Outcome.TheVariants.{Same, Differs, OldRefused, NewRefused, BothRefused}
use Rattle.diff_form.specs.declared.stop.DiffStop.{DiffStop}
use Rattle.diff_form.specs.declared.stop.DiffStop.TheVariants.{ReadFault, TooLong, WriteFault, Memory}

-- 0 if nothing differs, 1 if something does, 2 if a capture is refused
abbrev pub diff_status : Result Outcome DiffStop → ℕ
diff_status (Ok Same) = 0
diff_status (Ok Differs) = 1
diff_status (Ok OldRefused) = 2
diff_status (Ok NewRefused) = 2
diff_status (Ok BothRefused) = 2
diff_status (Err (ReadFault side)) = 3
diff_status (Err WriteFault) = 4
diff_status (Err (Memory error)) = 5
diff_status (Err (TooLong side)) = 6

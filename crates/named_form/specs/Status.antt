-- The status of a call.
use Rattle.std.specs.Prelude.{ℕ, Result, Ok, Err}
use Rattle.named_form.specs.declared.outcome.Outcome.{Outcome}
use Rattle.named_form.specs.declared.outcome.Outcome.TheVariants.{Shown, Refused, Misnamed}
use Rattle.named_form.specs.declared.stop.NamedStop.{NamedStop}
use Rattle.named_form.specs.declared.stop.NamedStop.TheVariants.{ReadFault, TooLong, WriteFault, Memory}

-- 0 if the bus is shown, 1 if the capture is refused, 2 if the file of names is
abbrev pub named_status : Result Outcome NamedStop → ℕ
named_status (Ok Shown) = 0
named_status (Ok Refused) = 1
named_status (Ok (Misnamed fault)) = 2
named_status (Err (ReadFault side)) = 3
named_status (Err WriteFault) = 4
named_status (Err (Memory error)) = 5
named_status (Err (TooLong side)) = 6

-- The status of a call.
use Rattle.std.specs.Prelude.{ℕ, Result, Ok, Err}
use Rattle.flawed_capture.specs.declared.flaw.FlawStop.TheVariants.{TooFewNodes, NoBus, NotFound, Memory}
use Rattle.flawed_form.specs.declared.written.FlawedStop.{FlawedStop}
use Rattle.flawed_form.specs.declared.written.FlawedStop.TheVariants.{Flaw, WriteFault}

-- 0 where a capture was written, 2 where none was made for these words
abbrev pub flawed_status : Result (Unit {0}) FlawedStop → ℕ
flawed_status (Ok done) = 0
flawed_status (Err WriteFault) = 4
flawed_status (Err (Flaw (TooFewNodes wanted))) = 2
flawed_status (Err (Flaw NoBus)) = 2
flawed_status (Err (Flaw NotFound)) = 2
flawed_status (Err (Flaw (Memory error))) = 5

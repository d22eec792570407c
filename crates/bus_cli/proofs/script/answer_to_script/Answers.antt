use Rattle.std.proofs.Common.{inl, inr, refl}
use Rattle.bus_cli.proofs.script.answer_to_script.Goals as goal

pub returns-in-Ok : goal.returns-in-Ok
returns-in-Ok c = inl (refl, c.in-Ok.ensures.printed)

pub returns-in-Err-Fault : goal.returns-in-Err-Fault
returns-in-Err-Fault c =
    inr (refl, (c.in-Err-Fault.fault, rw c.in-Err-Fault.field-0-is at c.in-Err-Fault.ensures.refused, c.script_line.ensures))

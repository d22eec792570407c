use Rattle.std.proofs.Common.{inl, inr, refl}
use Rattle.bus_cli.proofs.rom.answer_to_rom.Goals as goal

pub returns-in-Ok : goal.returns-in-Ok
returns-in-Ok c = let found = c.in-Ok.ensures.text in inl (refl, (found.0, found.1.0, found.1.1))

pub returns-in-Err-Fault : goal.returns-in-Err-Fault
returns-in-Err-Fault c =
    inr (refl, (c.in-Err-Fault.fault, rw c.in-Err-Fault.field-0-is at c.in-Err-Fault.ensures.fault, c.rom_line.ensures))

-- What is said of an answer that may also be want of memory.
use Rattle.std.specs.Prelude.{◌≡◌, Result, Ok, Err}
use Rattle.config_rom.specs.declared.fault.RomFault.{RomFault}
use Rattle.config_rom.specs.declared.fault.RomStop.{RomStop}
use Rattle.config_rom.specs.declared.fault.RomStop.TheVariants.{Fault, Memory}

-- if the answer is a fault, this holds of it
abbrev pub IfFault : {A : Type 0} → Result A RomStop → (RomFault → Type 0) → Type 0
IfFault (Ok x) P = Unit {0}
IfFault (Err (Fault f)) P = P f
IfFault (Err (Memory e)) P = Unit {0}

-- the answer is the one that is wanted, unless memory ran out
abbrev pub UnlessMemory : {A : Type 0} → Result A RomStop → Result A RomStop → Type 0
UnlessMemory (Ok x) wanted = Ok x ≡ wanted
UnlessMemory (Err (Fault f)) wanted = Err (Fault f) ≡ wanted
UnlessMemory (Err (Memory e)) wanted = Unit {0}

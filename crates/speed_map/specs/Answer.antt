-- What is said of an answer that may also be want of memory.
use Rattle.std.specs.Prelude.{Result, Ok, Err}
use Rattle.speed_map.specs.declared.fault.ImageFault.{ImageFault}
use Rattle.speed_map.specs.declared.fault.ImageFault.TheVariants.{Length, Crc, Rows, Memory}

-- if the answer is a fault, this holds of it
abbrev pub IfFault : {A : Type 0} → Result A ImageFault → (ImageFault → Type 0) → Type 0
IfFault (Ok x) P = Unit {0}
IfFault (Err (Length found)) P = P (Length found)
IfFault (Err (Crc kept computed)) P = P (Crc kept computed)
IfFault (Err (Rows found)) P = P (Rows found)
IfFault (Err (Memory e)) P = Unit {0}

-- if memory didn't run out, this holds of the answer
abbrev pub UnlessMemory :
    {A : Type 0} → Result A ImageFault → (Result A ImageFault → Type 0) → Type 0
UnlessMemory (Ok x) P = P (Ok x)
UnlessMemory (Err (Length found)) P = P (Err (Length found))
UnlessMemory (Err (Crc kept computed)) P = P (Err (Crc kept computed))
UnlessMemory (Err (Rows found)) P = P (Err (Rows found))
UnlessMemory (Err (Memory e)) P = Unit {0}

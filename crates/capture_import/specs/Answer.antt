-- What is said of an answer that may also be want of memory.
use Rattle.std.specs.Prelude.{Result, Ok, Err}
use Rattle.capture_import.specs.declared.fault.ImportFault.{ImportFault}
use Rattle.capture_import.specs.declared.fault.ImportStop.{ImportStop}
use Rattle.capture_import.specs.declared.fault.ImportStop.TheVariants.{Fault, Memory}

-- if the answer is a fault, this holds of it
abbrev pub IfFault : {A : Type 0} → Result A ImportStop → (ImportFault → Type 0) → Type 0
IfFault (Ok x) P = Unit {0}
IfFault (Err (Fault f)) P = P f
IfFault (Err (Memory error)) P = Unit {0}

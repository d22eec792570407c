-- What is said of a world's answers.
use Rattle.std.specs.Prelude.{Result, Ok, Err}
use Rattle.cabling.specs.declared.cable.CableFault.{CableFault}
use Rattle.cable_world.specs.declared.act.ActStop.{ActStop}
use Rattle.cable_world.specs.declared.act.ActStop.TheVariants.{Fault, Memory}

-- if the answer is a refusal, this holds of its cause
abbrev pub IfFault : {A : Type 0} → Result A ActStop → (CableFault → Type 0) → Type 0
IfFault (Ok x) P = Unit {0}
IfFault (Err (Fault f)) P = P f
IfFault (Err (Memory e)) P = Unit {0}

-- the answer is want of memory
abbrev pub IsMemory : {A : Type 0} → Result A ActStop → Type 0
IsMemory (Ok x) = ⊥
IsMemory (Err (Fault f)) = ⊥
IsMemory (Err (Memory e)) = Unit {0}

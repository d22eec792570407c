-- What is said of an answer that may also be want of memory.
use Rattle.std.specs.Prelude.{◌≡◌, Result, Ok, Err}
use Rattle.topology_stack.specs.declared.fault.TreeFault.{TreeFault}
use Rattle.topology_stack.specs.declared.fault.TreeStop.{TreeStop}
use Rattle.topology_stack.specs.declared.fault.TreeStop.TheVariants.{Fault, Memory}

-- if the answer is a fault, this holds of it
abbrev pub IfFault : {A : Type 0} → Result A TreeStop → (TreeFault → Type 0) → Type 0
IfFault (Ok x) P = Unit {0}
IfFault (Err (Fault f)) P = P f
IfFault (Err (Memory e)) P = Unit {0}

-- the answer is the one that is wanted, unless memory ran out
abbrev pub UnlessMemory : {A : Type 0} → Result A TreeStop → Result A TreeStop → Type 0
UnlessMemory (Ok x) wanted = Ok x ≡ wanted
UnlessMemory (Err (Fault f)) wanted = Err (Fault f) ≡ wanted
UnlessMemory (Err (Memory e)) wanted = Unit {0}

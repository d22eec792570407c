-- Why a capture gives no tree: a fault, or want of memory.
use Rattle.std.specs.Prelude.{Result, Ok, Err}
use Rattle.quad_lanes.specs.declared.pairs.PairFault.{PairFault}
use Rattle.quad_lanes.specs.declared.pairs.PairFault.TheVariants.{Length, Memory as NoPairMemory}
use Rattle.topology_stack.specs.declared.fault.TreeStop.{TreeStop}
use Rattle.topology_stack.specs.declared.fault.TreeStop.TheVariants.{Fault as TreeRefused, Memory as NoTreeMemory}
use Rattle.capture_reading.specs.declared.fault.CaptureFault.{CaptureFault}
use Rattle.capture_reading.specs.declared.fault.CaptureFault.TheVariants.{BadLength, Tree}
use Rattle.capture_reading.specs.declared.fault.CaptureStop.{CaptureStop}
use Rattle.capture_reading.specs.declared.fault.CaptureStop.TheVariants.{Fault, Memory}

-- of bytes that are no pairs
abbrev pub of_pairs : PairFault → CaptureStop
of_pairs (Length pairs) = Fault (BadLength pairs)
of_pairs (NoPairMemory e) = Memory e

-- of a list that no tree emits
abbrev pub of_tree : TreeStop → CaptureStop
of_tree (TreeRefused f) = Fault (Tree f)
of_tree (NoTreeMemory e) = Memory e

-- if the answer is want of memory, this holds
abbrev pub IfMemory : {A : Type 0} → Result A CaptureStop → Type 0 → Type 0
IfMemory (Ok x) P = Unit {0}
IfMemory (Err (Fault f)) P = Unit {0}
IfMemory (Err (Memory e)) P = P

-- if the answer is a fault, this holds of it
abbrev pub IfFault : {A : Type 0} → Result A CaptureStop → (CaptureFault → Type 0) → Type 0
IfFault (Ok x) P = Unit {0}
IfFault (Err (Fault f)) P = P f
IfFault (Err (Memory e)) P = Unit {0}

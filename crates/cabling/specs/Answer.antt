-- What is said of an answer that may also be want of memory.
use Rattle.std.specs.Prelude.{ℕ, Result, Ok, Err}
use Rattle.topology_stack.specs.Tree.{Tree}
use Rattle.cabling.specs.declared.tree.TreeFromFault.{TreeFromFault}
use Rattle.cabling.specs.declared.tree.TreeFromFault.TheVariants.{Cyclic, Memory}

-- if the answer is a core, this holds of it
abbrev pub IfCyclic : Result Tree TreeFromFault → (ℕ → Type 0) → Type 0
IfCyclic (Ok t) P = Unit {0}
IfCyclic (Err (Cyclic core)) P = P core
IfCyclic (Err (Memory e)) P = Unit {0}

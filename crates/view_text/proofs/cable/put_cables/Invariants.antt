use Rattle.std.proofs.Common.{◌≡◌, ℕ, ◌++◌, List, Option, Some, drop}
use Rattle.std.specs.Prelude.{slice_get}
use Rattle.topology_stack.specs.Far.{ends}
use Rattle.view_text.specs.Cable.{cables_of}
use Rattle.view_text.proofs.cable.put_cables.Given as goal

-- the cables so far, and then those of the slots that are left, are those of all slots
abbrev pub invariant-loop-slot : goal.invariant-loop-slot
invariant-loop-slot l = (es : List (Option ℕ)) → slice_get (ends l.tree) l.id ≡ Some es → l.list.items ++ cables_of l.tree l.id l.slot (drop l.slot l.ports) (drop l.slot es) ≡ l.initial.list.items ++ cables_of l.tree l.id 0 l.ports es

-- What is shown of a reset's list for programs.
use Rattle.std.specs.Prelude.{◌≡◌, ℕ, Option, Some, None, List, []}
use Rattle.self_id.specs.declared.standard.Standard.{Standard}
use Rattle.topology_stack.specs.Tree.{Tree}
use Rattle.json.specs.Json.{Members}
use Rattle.bus_json.specs.Bus.{tree_members}
use Rattle.bus_json.specs.Refusal.{fault_members, refused_members}
use Rattle.log_line.specs.declared.line.Origin.{Origin}
use Rattle.capture_reading.specs.declared.fault.CaptureFault.{CaptureFault}
use Rattle.reset_list.specs.Hear.{IsHeard, IsUnheard}

-- why a list is refused, as `busconf read` has it
abbrev pub list_fault : CaptureFault → Members
list_fault f = refused_members (fault_members f)

-- what a list is told as: the members of the tree that it is heard as, or of its fault
pub data IsListTold (standard : Standard) (origin : Origin) (list : List ℕ) (members : Members)
    (heard : Option Tree) : Type 0 where
  told_refused : (f : CaptureFault) → IsUnheard standard origin list f → members ≡ list_fault f → heard ≡ None →
      IsListTold standard origin list members heard
  told_heard : (t : Tree) → IsHeard standard origin list t → members ≡ tree_members [] t → heard ≡ Some t →
      IsListTold standard origin list members heard

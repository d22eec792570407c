-- What waits for a parent after one more node of a list.
use Rattle.std.specs.Prelude.{ℕ, ◌+◌, ◌-◌, ◌&&◌, ◌==◌, nat_lt, if◌then◌else◌, Result, Ok, Err}
use Rattle.self_id.specs.Node.{Node, ups, downs}
use Rattle.topology_stack.specs.declared.fault.TreeFault.{TreeFault}
use Rattle.topology_stack.specs.declared.fault.TreeFault.TheVariants.{TooFewChildren, TreesLeft}
use Rattle.topology_stack.specs.declared.waiting.Waiting.{Waiting}

-- with so many trees that wait, at the place of the node's group
abbrev pub after_node : ℕ → ℕ → Node → Result Waiting TreeFault
after_node at found n =
    if nat_lt found (downs n.ports) then Err (TooFewChildren at found (downs n.ports))
    else (if (ups n.ports == 0) && nat_lt (downs n.ports) found
    then Err (TreesLeft at found (downs n.ports))
    else Ok (record { trees = found - downs n.ports + 1; rooted = ups n.ports == 0 }))

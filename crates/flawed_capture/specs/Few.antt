-- Lists of few nodes don't have each kind of fault.
use Rattle.std.specs.Prelude.{ℕ, ◌≤◌, List}
use Rattle.self_id.specs.declared.standard.Standard.{Standard}
use Rattle.self_id.specs.Group.{node_count}
use Rattle.topology_stack.specs.declared.fault.TreeFault.{TreeFault}
use Rattle.topology_stack.specs.Refused.{Refused}
use Rattle.flawed_capture.specs.Flaw.{of_tree, least_nodes}

-- a list that is refused by a fault of a kind shows as many nodes as this kind wants
abbrev pub FewNodesHaveNoSuchFlaw : Type 0
FewNodesHaveNoSuchFlaw =
    (standard : Standard) (list : List ℕ) (f : TreeFault) → Refused standard list f →
    least_nodes (of_tree f) ≤ node_count list

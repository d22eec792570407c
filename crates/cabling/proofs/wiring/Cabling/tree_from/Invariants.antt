use Rattle.std.proofs.Common.{◌≡◌, ◌++◌, map, drop}
use Rattle.topology_stack.specs.Tree.{groups}
use Rattle.cabling.specs.Labels.{labels}
use Rattle.cabling.specs.codings.Shown.{shown_node}
use Rattle.cabling.proofs.wiring.Cabling.tree_from.Given as goal

abbrev pub invariant-loop-id : goal.invariant-loop-id
invariant-loop-id l =
    l.quads ++ groups l.id (map (shown_node l.self (labels l.attrs)) (drop l.id l.visit-items)) ≡ groups 0 (map (shown_node l.self (labels l.attrs)) l.visit-items)

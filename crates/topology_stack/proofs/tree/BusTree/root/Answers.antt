use Rattle.std.proofs.Common.{ap, length, arith}
use Rattle.topology_stack.specs.codings.Code.{tree_of}
use Rattle.topology_stack.proofs.Lemmas.{some_node}
use Rattle.topology_stack.proofs.tree.BusTree.root.Goals as goal

pub returns : goal.returns
returns c = rw (← c.self.view_is, ← c.self.invariant.walk_is) (omega (arith, c.len.ensures, some_node (tree_of c.self.inside.nodes.items), ap length c.self.invariant.walk_is))

use Rattle.std.proofs.Common.{ap, subst, length, arith}
use Rattle.topology_stack.specs.codings.Code.{tree_of}
use Rattle.topology_stack.specs.Tree.{IsBusTree}
use Rattle.topology_stack.proofs.Lemmas.{some_node}
use Rattle.topology_stack.proofs.tree.BusTree.len.Goals as goal

pub returns-clause-value : goal.returns-clause-value
returns-clause-value c = rw (← c.self.view_is, ← c.self.invariant.walk_is) (omega (arith, c.len.ensures))

pub returns-clause-some : goal.returns-clause-some
returns-clause-some c = omega (arith, c.len.ensures, some_node (tree_of c.self.inside.nodes.items), ap length c.self.invariant.walk_is)

pub returns-clause-few : goal.returns-clause-few
returns-clause-few c = omega (arith, c.len.ensures, c.self.invariant.bus.small, ap length c.self.invariant.walk_is)

pub returns-clause-valid : goal.returns-clause-valid
returns-clause-valid c = subst IsBusTree c.self.view_is c.self.invariant.bus

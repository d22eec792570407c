use Rattle.std.proofs.Common.{length, ap, ◌∙◌}
use Rattle.topology_stack.specs.Tree.{Tree, walk}
use Rattle.topology_stack.proofs.Ends.{length-children}
use Rattle.topology_stack.proofs.tree.BusTree.children.Goals as goal

pub returns-clause-len : goal.returns-clause-len
returns-clause-len c = length-children _ _ _ _ c.self.invariant ∙ ap length c.self.invariant.walk_is ∙ ap (λ (t : Tree). length (walk t)) c.self.view_is

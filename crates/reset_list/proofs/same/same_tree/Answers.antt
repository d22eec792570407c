use Rattle.std.proofs.Common.{◌≡◌}
use Rattle.topology_stack.specs.Tree.{walk}
use Rattle.reset_list.proofs.OneTree.{same_walk}
use Rattle.reset_list.proofs.same.same_tree.Goals as goal

pub returns : goal.returns
returns c = λ e.
    let nodes : walk c.args.a.now ≡ walk c.args.b.now = rw (c.nodes.ensures.value, c.nodes-2.ensures.value) at (c.same_nodes.ensures e) in
    same_walk _ _ c.len-count.ensures.valid c.len.ensures.valid nodes

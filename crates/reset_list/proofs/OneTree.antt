-- Two bus trees with the same nodes are one.
use Rattle.std.proofs.Common.{◌≡◌, ap, subst}
use Rattle.topology_stack.specs.Tree.{Tree, walk, AreOf, IsBusTree, groups}
use Rattle.topology_stack.proofs.Lemmas.{one_tree}

pub same_walk : (t u : Tree) → IsBusTree t → IsBusTree u → walk t ≡ walk u → t ≡ u
same_walk t u a b e =
    let standard = a.one_standard.0 in
    one_tree standard t u (record { bus = a; nodes = a.one_standard.1 })
    (record { bus = b; nodes = subst (AreOf standard) e a.one_standard.1 }) (ap (groups 0) e)

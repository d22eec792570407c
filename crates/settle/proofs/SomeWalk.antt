-- A component without a loop has an order in which its nodes identify themselves: that of the tree that
-- is seen, whatever the labels are.
use Rattle.std.proofs.Common.{ℕ, [], None}
use Rattle.topology_stack.specs.Tree.{Label}
use Rattle.cabling.specs.Existence.{ComponentsExist}
use Rattle.cabling.specs.Labels.{labels}
use Rattle.cabling.specs.Sees.{SmallTree, numbers}
use Rattle.cabling.proofs.Lemmas.{Loopless, loopless, small_tree}
use Rattle.outcomes.proofs.Lemmas.{component-small}
use Rattle.settle.specs.SomeWalk.{WalksExist}
use Rattle.settle.proofs.Relabelled.{one-order}

pub some-walk : ComponentsExist → WalksExist
some-walk exist c root set core is there component core-is empty =
    let l : Loopless c root set = loopless c root set core is there component (component-small exist c root set is there component) core-is empty in
    let plain : ℕ → Label = labels [] in
    let first : SmallTree c plain root = small_tree c plain root set l in
    record {
      order = numbers c root first.tree;
      is = λ label.
          let seen : SmallTree c label root = small_tree c label root set l in
          record { tree = seen.tree; seen = seen.seen; order = one-order c plain label root None first.tree seen.tree first.seen seen.seen };
    }

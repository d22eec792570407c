use Rattle.outcomes.proofs.Common.{comes-lawful}
use Rattle.outcomes.proofs.settled.Components.{small-tree}
use Rattle.outcomes.proofs.settled.TreesStay.{tree-stays}
use Rattle.outcomes.proofs.laws.trees_stay.Goals as goal

pub returns : goal.returns
returns c = record {
  turns = λ w v k node set root t r rests comp h.
      tree-stays r rests node set comp (small-tree c.components_exist.ensures w (comes-lawful w r) node set root t comp h) root t h;
}

use Rattle.view_text.proofs.CableEnds.{cables-of-tree, each-has-cable}
use Rattle.view_text.proofs.laws.cables_are_of_the_tree.Goals as goal

pub returns-clause-ends : goal.returns-clause-ends
returns-clause-ends c = cables-of-tree

pub returns-clause-all : goal.returns-clause-all
returns-clause-all c = each-has-cable

use Rattle.world_laws.proofs.LineText.{lines-tell}
use Rattle.world_laws.proofs.TreeText.{texts-tell, one-text}
use Rattle.world_laws.proofs.laws.texts_tell_trees.Goals as goal

pub returns-clause-trees : goal.returns-clause-trees
returns-clause-trees c = texts-tell

pub returns-clause-alike : goal.returns-clause-alike
returns-clause-alike c = one-text

pub returns-clause-lines : goal.returns-clause-lines
returns-clause-lines c = lines-tell

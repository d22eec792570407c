use Rattle.std.proofs.Common.{None}
use Rattle.cabling.proofs.OneTree.{one-tree}
use Rattle.cabling.proofs.laws.trees_are_seen_once.Goals as goal

pub returns : goal.returns
returns c = λ label root one other h k. one-tree c.args.c.now label root None one other h k

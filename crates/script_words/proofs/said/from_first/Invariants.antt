use Rattle.std.proofs.Common.{◌≡◌, length}
use Rattle.script_words.specs.Before.{from_first}
use Rattle.script_words.proofs.said.from_first.Given as goal

abbrev pub invariant-loop-rest : goal.invariant-loop-rest
invariant-loop-rest l = from_first l.rest ≡ from_first l.lines

abbrev pub decreases-loop-rest : goal.decreases-loop-rest
decreases-loop-rest l = length l.rest

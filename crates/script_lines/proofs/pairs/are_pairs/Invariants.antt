use Rattle.std.proofs.Common.{◌≡◌, length}
use Rattle.script_lines.specs.Node.{are_pairs}
use Rattle.script_lines.proofs.pairs.are_pairs.Given as goal

abbrev pub invariant-loop-rest : goal.invariant-loop-rest
invariant-loop-rest l = are_pairs l.rest ≡ are_pairs l.initial.rest

abbrev pub decreases-loop-rest : goal.decreases-loop-rest
decreases-loop-rest l = length l.rest

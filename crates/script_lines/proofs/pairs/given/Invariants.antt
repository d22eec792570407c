use Rattle.std.proofs.Common.{◌≡◌, length}
use Rattle.script_lines.specs.Node.{given}
use Rattle.script_lines.proofs.pairs.given.Given as goal

abbrev pub invariant-loop-rest : goal.invariant-loop-rest
invariant-loop-rest l = given l.key l.rest ≡ given l.key l.initial.rest

abbrev pub decreases-loop-rest : goal.decreases-loop-rest
decreases-loop-rest l = length l.rest

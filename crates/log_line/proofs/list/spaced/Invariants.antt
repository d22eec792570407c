use Rattle.std.proofs.Common.{◌≡◌, length}
use Rattle.log_line.specs.Words.{to_field}
use Rattle.log_line.specs.Lists.{spaced}
use Rattle.log_line.proofs.list.spaced.Given as goal

abbrev pub invariant-loop-rest : goal.invariant-loop-rest
invariant-loop-rest l = spaced l.text.items (to_field l.rest) ≡ spaced l.initial.text.items (to_field l.initial.rest)

abbrev pub decreases-loop-rest : goal.decreases-loop-rest
decreases-loop-rest l = length l.rest

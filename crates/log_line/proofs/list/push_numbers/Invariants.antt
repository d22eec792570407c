use Rattle.std.proofs.Common.{◌≡◌, length}
use Rattle.log_line.specs.Words.{to_field}
use Rattle.log_line.specs.Lists.{behind_all, numbers_of}
use Rattle.log_line.proofs.list.push_numbers.Given as goal

abbrev pub invariant-loop-rest : goal.invariant-loop-rest
invariant-loop-rest l = behind_all l.list (numbers_of (to_field l.rest)) ≡ behind_all l.initial.list (numbers_of (to_field l.initial.rest))

abbrev pub decreases-loop-rest : goal.decreases-loop-rest
decreases-loop-rest l = length l.rest

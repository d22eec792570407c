use Rattle.std.proofs.Common.{◌≡◌, length}
use Rattle.log_line.specs.Lists.{behind_all, between_commas}
use Rattle.log_line.proofs.list.between_commas.Given as goal

abbrev pub invariant-loop-part : goal.invariant-loop-part
invariant-loop-part l = behind_all l.list (between_commas l.rest) ≡ between_commas l.initial.rest

abbrev pub decreases-loop-part : goal.decreases-loop-part
decreases-loop-part l = length l.rest

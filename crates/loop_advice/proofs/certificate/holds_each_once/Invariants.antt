use Rattle.std.proofs.Common.{◌++◌, take}
use Rattle.loop_advice.proofs.Marking.{Marking}
use Rattle.loop_advice.proofs.certificate.holds_each_once.Given as goal

abbrev pub invariant-loop-at : goal.invariant-loop-at
invariant-loop-at l = Marking l.cabling l.set (take l.at (l.advice.pulls ++ l.advice.kept)) l.marks

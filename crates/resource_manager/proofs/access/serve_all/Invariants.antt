use Rattle.resource_manager.proofs.UnderWay.{IsUnderWay}
use Rattle.resource_manager.proofs.access.serve_all.Given as goal

abbrev pub invariant-loop-i : goal.invariant-loop-i
invariant-loop-i l = IsUnderWay l.fn.regs l.regs l.i l.accesses l.answers

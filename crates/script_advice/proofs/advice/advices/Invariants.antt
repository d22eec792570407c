use Rattle.std.proofs.Common.{take}
use Rattle.script_advice.specs.Advice.{loops_of, AreAdvices}
use Rattle.script_advice.proofs.advice.advices.Given as goal

abbrev pub invariant-loop-part : goal.invariant-loop-part
invariant-loop-part l = AreAdvices l.cabling (loops_of (take l.part-index l.parts)) l.list.items

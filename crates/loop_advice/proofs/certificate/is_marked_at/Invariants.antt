use Rattle.std.proofs.Common.{◌≡◌, ◌<◌, Some}
use Rattle.cabling.specs.declared.cable.End.{End}
use Rattle.cabling.specs.Wiring.{far}
use Rattle.loop_advice.specs.codings.Marks.{IsMarked}
use Rattle.loop_advice.proofs.certificate.is_marked_at.Given as goal

abbrev pub invariant-loop-port : goal.invariant-loop-port
invariant-loop-port l = (a b : End) → far l.cabling a ≡ Some b → a.node ≡ l.node → a.port < l.port → IsMarked l.marks a

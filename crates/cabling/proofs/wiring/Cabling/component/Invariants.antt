use Rattle.std.proofs.Common.{◌<◌, ◌^◌, ◌-◌}
use Rattle.cabling.proofs.Growing.{Growing}
use Rattle.cabling.proofs.wiring.Cabling.component.Given as goal

abbrev pub invariant-loop-next : goal.invariant-loop-next
invariant-loop-next l = record {
  growing : Growing l.self l.node l.done l.waiting;
  small : l.done < 2 ^ 63;
}

abbrev pub decreases-loop-next : goal.decreases-loop-next
decreases-loop-next l = 2 ^ 63 - l.done

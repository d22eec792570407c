use Rattle.std.proofs.Common.{◌≡◌, ◌≤◌, ◌-◌, [], length, take, drop}
use Rattle.script_lines.specs.Node.{first_wrong_pair}
use Rattle.script_lines.proofs.pairs.check_pairs.Given as goal

abbrev pub invariant-loop-done : goal.invariant-loop-done
invariant-loop-done l = record {
  within : l.done ≤ length l.pairs;
  fault : first_wrong_pair l.times (take l.done l.pairs) (drop l.done l.pairs)
      ≡ first_wrong_pair l.times [] l.pairs;
}

abbrev pub decreases-loop-done : goal.decreases-loop-done
decreases-loop-done l = length l.pairs - l.done

use Rattle.std.proofs.Common.{◌≡◌, ◌++◌, drop}
use Rattle.script_advice.specs.Advice.{pull_lines}
use Rattle.script_advice.proofs.advice.put_cables.Given as goal

abbrev pub invariant-loop-cable : goal.invariant-loop-cable
invariant-loop-cable l =
    l.out.items ++ pull_lines l.names (drop l.cable-index l.cables)
    ≡ l.initial.out.items ++ pull_lines l.names l.cables

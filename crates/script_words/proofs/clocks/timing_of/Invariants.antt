use Rattle.std.proofs.Common.{◌≡◌, drop}
use Rattle.script_words.specs.Clocks.{timing_of}
use Rattle.script_words.proofs.clocks.timing_of.Given as goal

abbrev pub invariant-loop-line : goal.invariant-loop-line
invariant-loop-line l =
    timing_of l.ranges l.name (drop l.line-index l.lines) ≡ timing_of l.ranges l.name l.lines

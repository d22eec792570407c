use Rattle.std.proofs.Common.{◌≡◌, drop}
use Rattle.script_words.specs.Clocks.{widened_by}
use Rattle.script_words.proofs.clocks.widened_by.Given as goal

abbrev pub invariant-loop-line : goal.invariant-loop-line
invariant-loop-line l =
    widened_by l.d l.lines l.wide (drop l.line-index l.lines) ≡ widened_by l.d l.lines l.fn.ranges l.lines

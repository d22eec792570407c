use Rattle.std.proofs.Common.{◌≡◌, drop, None}
use Rattle.script_words.specs.Cables.{far_end}
use Rattle.script_words.proofs.cables.far_end.Given as goal

abbrev pub invariant-loop-line : goal.invariant-loop-line
invariant-loop-line l =
    far_end l.port l.far (drop l.line-index l.lines) ≡ far_end l.port None l.lines

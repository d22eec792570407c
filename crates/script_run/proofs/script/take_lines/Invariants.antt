use Rattle.std.proofs.Common.{◌≤◌, ◌+◌, length}
use Rattle.script_told.specs.Script.{script_lines}
use Rattle.script_run.specs.codings.Going.{HaveGone}
use Rattle.script_run.proofs.script.take_lines.Given as goal

-- the lines that were taken made a part of the run, what is written of them stands in the text, and
-- the others are left
abbrev pub invariant-loop-rest : goal.invariant-loop-rest
invariant-loop-rest g l =
    (l.number + length l.rest ≤ 1048577)
    × HaveGone g.R.Hears.Listener.voice g.R.Writes.Writer.writes l.bytes l.text.items
    (g.R.Hears.Listener.written l.heard) l.number (script_lines l.rest) l.stage

abbrev pub decreases-loop-rest : goal.decreases-loop-rest
decreases-loop-rest g l = length l.rest

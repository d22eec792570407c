use Rattle.std.proofs.Common.{◌≡◌, length}
use Rattle.std.specs.Prelude.{cond}
use Rattle.std.specs.List.{list_any}
use Rattle.script_text.specs.Summary.{is_report_line, lines_of, from_last_report}
use Rattle.script_text.proofs.last_report.from_last_report.Given as goal

abbrev pub invariant-loop-rest : goal.invariant-loop-rest
invariant-loop-rest l =
    cond (list_any is_report_line (lines_of l.rest)) (from_last_report (lines_of l.rest)) (lines_of l.found)
    ≡ from_last_report (lines_of l.initial.rest)

abbrev pub decreases-loop-rest : goal.decreases-loop-rest
decreases-loop-rest l = length l.rest

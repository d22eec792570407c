use Rattle.std.proofs.Common.{◌≡◌, ◌++◌, length}
use Rattle.capture_import.specs.Text.{data_of_text}
use Rattle.capture_import.proofs.lines.put_lines.Given as goal

-- the data so far, and then those of the rest, are the data of all
abbrev pub invariant-loop-line : goal.invariant-loop-line
invariant-loop-line l =
    l.out.items ++ data_of_text l.form l.rest ≡ l.fn.out.items ++ data_of_text l.form l.text

abbrev pub decreases-loop-line : goal.decreases-loop-line
decreases-loop-line l = length l.rest

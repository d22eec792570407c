use Rattle.std.proofs.Common.{◌≡◌, ◌++◌, length}
use Rattle.capture_import.specs.Text.{data_of}
use Rattle.capture_import.proofs.lines.put_data.Given as goal

abbrev pub invariant-loop-rest : goal.invariant-loop-rest
invariant-loop-rest l =
    l.out.items ++ data_of l.form l.rest ≡ l.fn.out.items ++ data_of l.form l.line

abbrev pub decreases-loop-rest : goal.decreases-loop-rest
decreases-loop-rest l = length l.rest

use Rattle.std.proofs.Common.{◌≡◌, ◌+◌, ◌≤◌, length}
use Rattle.named_form.specs.File.{lines_of, fault_from, fault_of}
use Rattle.named_form.proofs.file.fault_of.Given as goal

abbrev pub invariant-loop-line : goal.invariant-loop-line
invariant-loop-line l =
    (fault_from l.number (lines_of l.rest) ≡ fault_of l.file) × (l.number + length l.rest ≤ 1048577)

abbrev pub decreases-loop-line : goal.decreases-loop-line
decreases-loop-line l = length l.rest

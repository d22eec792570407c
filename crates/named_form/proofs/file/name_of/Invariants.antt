use Rattle.std.proofs.Common.{◌≡◌, length}
use Rattle.named_form.specs.File.{lines_of, name_of}
use Rattle.named_form.proofs.file.name_of.Given as goal

abbrev pub invariant-loop-line : goal.invariant-loop-line
invariant-loop-line l =
    name_of l.id (lines_of l.rest) ≡ name_of l.id (lines_of l.file)

abbrev pub decreases-loop-line : goal.decreases-loop-line
decreases-loop-line l = length l.rest

use Rattle.std.proofs.Common.{◌≡◌, length}
use Rattle.std.specs.List.{list_any}
use Rattle.named_form.specs.File.{lines_of, names_id}
use Rattle.named_form.proofs.file.is_named.Given as goal

abbrev pub invariant-loop-line : goal.invariant-loop-line
invariant-loop-line l =
    list_any (names_id l.id) (lines_of l.rest) ≡ list_any (names_id l.id) (lines_of l.text)

abbrev pub decreases-loop-line : goal.decreases-loop-line
decreases-loop-line l = length l.rest

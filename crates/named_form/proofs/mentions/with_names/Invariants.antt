use Rattle.std.proofs.Common.{◌≡◌, ◌++◌, length}
use Rattle.named_form.specs.File.{lines_of}
use Rattle.named_form.specs.Mentions.{with_names}
use Rattle.named_form.proofs.mentions.with_names.Given as goal

abbrev pub invariant-loop-rest : goal.invariant-loop-rest
invariant-loop-rest l =
    l.out.items ++ with_names (lines_of l.file) l.rest ≡ with_names (lines_of l.file) l.text

abbrev pub decreases-loop-rest : goal.decreases-loop-rest
decreases-loop-rest l = length l.rest

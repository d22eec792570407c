use Rattle.std.proofs.Common.{◌≡◌, ◌+◌, length}
use Rattle.named_form.specs.File.{word_len}
use Rattle.named_form.proofs.lines.word_len.Given as goal

abbrev pub invariant-loop-rest : goal.invariant-loop-rest
invariant-loop-rest l =
    (l.count + word_len l.rest ≡ word_len l.line) × (l.count + length l.rest ≡ length l.line)

abbrev pub decreases-loop-rest : goal.decreases-loop-rest
decreases-loop-rest l = length l.rest

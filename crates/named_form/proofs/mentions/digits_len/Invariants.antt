use Rattle.std.proofs.Common.{◌≡◌, ◌+◌, length}
use Rattle.named_form.specs.Mentions.{digits_len}
use Rattle.named_form.proofs.mentions.digits_len.Given as goal

abbrev pub invariant-loop-rest : goal.invariant-loop-rest
invariant-loop-rest l =
    (l.count + digits_len l.rest ≡ digits_len l.text) × (l.count + length l.rest ≡ length l.text)

abbrev pub decreases-loop-rest : goal.decreases-loop-rest
decreases-loop-rest l = length l.rest

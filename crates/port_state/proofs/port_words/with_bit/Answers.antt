use Rattle.std.proofs.Common.{◌∙◌, ap, sym, ◌==◌, if◌then◌else◌}
use Rattle.port_state.specs.codings.PortWords.{has_bit}
use Rattle.port_state.proofs.WordBits.{has_bit-set, has_bit-clear, set-fits}
use Rattle.port_state.proofs.port_words.with_bit.Goals as goal

pub returns-then-on-clause-bits : goal.returns-then-on-clause-bits
returns-then-on-clause-bits c k = has_bit-set c.args.word c.args.at k c.requires ∙ ap (λ b. if k == c.args.at then b else has_bit c.args.word k) (sym c.if-on.true)

pub returns-then-on-clause-fits : goal.returns-then-on-clause-fits
returns-then-on-clause-fits c count l fits = set-fits c.args.word c.args.at count c.requires l fits

pub returns-else-on-clause-bits : goal.returns-else-on-clause-bits
returns-else-on-clause-bits c k = has_bit-clear c.args.word c.args.at k c.requires c.ranges.word.fits ∙ ap (λ b. if k == c.args.at then b else has_bit c.args.word k) (sym c.if-on.false)

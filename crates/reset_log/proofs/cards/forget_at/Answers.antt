use Rattle.std.proofs.Common.{length, refl, arith}
use Rattle.std.proofs.lemmas.Option.{slice_get_read}
use Rattle.reset_log.proofs.Kept.{forgotten_there, forgotten_past}
use Rattle.reset_log.proofs.cards.forget_at.Goals as goal

pub returns-then-at-len : goal.returns-then-at-len
returns-then-at-len c =
    let cards = c.args.cards.now.items in
    forgotten_there cards c.args.at c.index_mut.result.now
    (slice_get_read cards (length cards) c.args.at c.index_mut.result.now refl (omega (arith, c.if-at-len.true, c.len.ensures, c.args.cards.now.ok.0)) c.index_mut.ensures.value)

pub returns-else-at-len : goal.returns-else-at-len
returns-else-at-len c =
    forgotten_past c.args.at c.args.cards.now.items (omega (arith, c.if-at-len.false, c.len.ensures, c.args.cards.now.ok.0))

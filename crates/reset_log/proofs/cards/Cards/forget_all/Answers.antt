use Rattle.std.proofs.Common.{◌∙◌, List, ap}
use Rattle.std.specs.Prelude.{map}
use Rattle.reset_log.specs.declared.cards.Known.{Known}
use Rattle.reset_log.specs.Noted.{forgotten}
use Rattle.reset_log.proofs.Kept.{forgets_all, kept_less, none_drawn}
use Rattle.reset_log.proofs.cards.Cards.forget_all.Goals as goal

pub loop-at-preserved : goal.loop-at-preserved
loop-at-preserved c =
    let known = c.loop-at.self-inside.known.items in (
      kept_less c.loop-at.self-inside.places c.loop-at.self-inside.drawn c.pop_last.new.self c.in-Some.at known c.forget_at.new.cards.items
          c.loop-at.invariant.0 c.in-Some.ensures.updates c.forget_at.ensures,
      ap (λ (ks : List Known). map forgotten ks) c.forget_at.ensures ∙ forgets_all c.in-Some.at known ∙ c.loop-at.invariant.1,
    )

pub returns : goal.returns
returns c =
    none_drawn c.loop-at.self-inside.drawn c.loop-at.self-inside.known.items c.loop-at.invariant.0.has_drawn c.in_default.ensures.variant.1
    ∙ c.loop-at.invariant.1

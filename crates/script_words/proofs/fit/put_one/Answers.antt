use Rattle.std.proofs.Common.{◌≡◌, ◌∙◌, sym, arith}
use Rattle.script_words.proofs.Usages.{all_hit, goes_on}
use Rattle.script_words.proofs.fit.put_one.Goals as goal

pub returns : goal.returns
returns c =
    let same : c.in_ok-reach_of.field-0 ≡ c.args.n = omega arith in
    goes_on _ _ _ _ _ c.in_ok-put_usage.ensures
    (all_hit c.args.some c.args.n c.args.number c.args.words.now c.requires (sym same ∙ c.in_ok-reach_of.ensures.value))

use Rattle.std.proofs.Common.{sym, subst}
use Rattle.script_advice.specs.declared.advice.LoopAdvice.{LoopAdvice}
use Rattle.script_advice.specs.Advising.{IsNamedAdvice}
use Rattle.script_advice.proofs.advice.advice_text.Goals as goal

pub put_advice-requires : goal.put_advice-requires
put_advice-requires c =
    subst (λ (a : LoopAdvice). IsNamedAdvice c.args.names.now a) (sym c.advice-item.is)
    (c.requires c.loop-advice.advice-index c.advice-item.result c.loop-advice-test.true)

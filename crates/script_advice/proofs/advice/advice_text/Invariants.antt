use Rattle.std.proofs.Common.{◌≡◌, ◌++◌, drop}
use Rattle.script_advice.specs.Advice.{all_advice_texts, advice_text}
use Rattle.script_advice.proofs.advice.advice_text.Given as goal

abbrev pub invariant-loop-advice : goal.invariant-loop-advice
invariant-loop-advice l =
    l.out.items ++ all_advice_texts l.names (drop l.advice-index l.advices)
    ≡ advice_text l.names l.advices

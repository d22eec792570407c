use Rattle.std.proofs.Common.{◌≡◌, ◌+◌, ℕ, List, ◌∷◌, ◌++◌, [], take, ap, sym, subst, ◌∙◌}
use Rattle.std.proofs.lemmas.List.{take_more}
use Rattle.settle.specs.declared.report.Part.{Part}
use Rattle.script_advice.specs.Advice.{if_loop, loops_of, AreAdvices}
use Rattle.script_advice.proofs.Advising.{loops-more}
use Rattle.script_advice.proofs.advice.advices.Goals as goal

pub loop-part-preserved : goal.loop-part-preserved
loop-part-preserved c =
    let parts = c.args.parts.now in
    let at = c.loop-part.part-index in
    let part = c.part-item.result in
    let next : take (at + 1) parts ≡ take at parts ++ part ∷ [] =
    take_more parts at part c.loop-part-test.true
    ∙ ap (λ (p : Part). take at parts ++ p ∷ []) (sym c.part-item.is) in
    let sets : loops_of (take (at + 1) parts) ≡ loops_of (take at parts) ++ if_loop part.outcome part.nodes =
    ap loops_of next ∙ loops-more (take at parts) part in
    subst (λ (s : List ℕ). AreAdvices c.args.cabling.now s c.push_advice.new.list.items) (sym sets)
    (c.in_ok-push_advice.ensures (loops_of (take at parts)) c.loop-part.invariant)

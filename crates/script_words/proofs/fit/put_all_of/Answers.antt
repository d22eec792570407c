use Rattle.std.proofs.Common.{◌≡◌, ◌∙◌, ◌++◌, List, ℕ, [], drop, sym, ap}
use Rattle.std.proofs.lemmas.List.{append-nil}
use Rattle.script_words.specs.Usage.{usages}
use Rattle.script_words.specs.Fit.{all_of}
use Rattle.script_words.proofs.Usages.{all_done}
use Rattle.script_words.proofs.fit.put_all_of.Goals as goal

pub returns : goal.returns
returns c =
    let end : all_of c.loop-number.some c.args.n c.args.words.now (drop c.loop-number.number usages) ≡ [] =
    all_done c.loop-number.some c.args.n c.loop-number.number c.args.words.now c.loop-number-test.false in
    sym (append-nil c.loop-number.out.items)
    ∙ ap (λ (t : List ℕ). c.loop-number.out.items ++ t) (sym end) ∙ c.loop-number.invariant

use Rattle.std.proofs.Common.{◌≡◌, ◌∙◌, false, sym}
use Rattle.script_words.specs.Pairs.{has_key}
use Rattle.script_words.proofs.pairs.is_taken.Goals as goal

pub returns-else-has_key : goal.returns-else-has_key
returns-else-has_key c =
    let first : has_key c.args.key.now c.args.before.now ≡ false = sym c.has_key.ensures ∙ c.if-has_key.false in
    rw first (rw c.rival.ensures at c.has_key-else-has_key.ensures)

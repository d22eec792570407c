use Rattle.std.proofs.Common.{◌≡◌, ◌∙◌, ap, sym, is_some, false}
use Rattle.script_lines.specs.Key.{rival}
use Rattle.script_lines.specs.Node.{given}
use Rattle.script_lines.proofs.pairs.is_taken.Goals as goal

pub returns-else-has : goal.returns-else-has
returns-else-has c =
    let none : is_some (given c.args.key c.args.pairs.now) ≡ false =
    sym c.has.ensures ∙ c.if-has.false in
    let other : c.has-else-has.result ≡ is_some (given (rival c.args.key) c.args.pairs.now) =
    c.has-else-has.ensures ∙ ap (λ key. is_some (given key c.args.pairs.now)) c.rival.ensures in
    rw none other

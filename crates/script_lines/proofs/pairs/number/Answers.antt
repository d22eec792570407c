use Rattle.std.proofs.Common.{ℕ, sym, subst, Option}
use Rattle.std.specs.Prelude.{IfSome}
use Rattle.script_lines.specs.Key.{limits}
use Rattle.script_lines.specs.Range.{IsBetween}
use Rattle.script_lines.proofs.GivenValues.{right_number}
use Rattle.script_lines.proofs.pairs.number.Goals as goal

pub returns-clause-ranged : goal.returns-clause-ranged
returns-clause-ranged c =
    let ends : ℕ × ℕ = limits c.args.times c.args.key in
    let Ranged : Option ℕ → Type 0 = λ r. IfSome r (IsBetween ends.0 ends.1) in
    subst Ranged (sym c.number_of.ensures)
    (right_number c.args.times c.args.key c.args.pairs.now c.as_bytes.result.now c.requires.right
    (rw c.as_bytes.ensures (sym c.in_ok-given.ensures)))

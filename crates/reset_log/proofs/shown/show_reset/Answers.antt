use Rattle.std.proofs.Common.{sym, ◌∙◌, Option, subst, arith, eq-eqb}
use Rattle.std.specs.Option.{option_copied}
use Rattle.reset_log.specs.declared.cards.Known.{Known}
use Rattle.reset_log.specs.Notes.{noted}
use Rattle.reset_log.specs.Shown.{IsResetShown}
use Rattle.reset_log.proofs.Judged.{judged}
use Rattle.reset_list.proofs.Lemmas.{none_is}
use Rattle.reset_log.proofs.shown.show_reset.Goals as goal

pub returns-clause-shown : goal.returns-clause-shown
returns-clause-shown c =
    subst (λ (b : Option Known). IsResetShown c.args.form c.args.number c.args.lacks b (noted c.args.notes.now) c.args.reset.now c.in_ok-text-3.field-0.text.items c.is_none-bad.result (noted c.keep-2.new.self))
    c.last_of-before.ensures
    (judged c.args.form c.args.number c.args.lacks (option_copied c.last_of-before.result) (noted c.args.notes.now) (noted c.keep-2.new.self) c.args.reset.now _ c.in_ok-text-3.field-0.tree c.is_none-bad.result
    (sym c.is_repeated.ensures ∙ c.if-is_repeated.false) c.if-reset.false (eq-eqb c.args.lacks 0 (omega (arith, c.if-lacks-ne0.false))) c.in_ok-text-3.ensures.judged (none_is _ _ c.is_none-bad.ensures) c.in_ok-keep-3.ensures)

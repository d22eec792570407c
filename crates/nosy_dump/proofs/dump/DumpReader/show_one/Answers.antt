use Rattle.std.proofs.Common.{◌∙◌, ap, Bool, ◌||◌, arith}
use Rattle.reset_list.proofs.Lemmas.{none_is}
use Rattle.nosy_dump.specs.Notes.{noted}
use Rattle.nosy_dump.proofs.Shown.{shows_one}
use Rattle.nosy_dump.proofs.AsJson.{gather_text}
use Rattle.nosy_dump.proofs.dump.DumpReader.show_one.Goals as goal

pub returns-clause-ok : goal.returns-clause-ok
returns-clause-ok c =
    shows_one c.args.self.now.form c.args.reset.now c.args.self.now.number
    c.saturating_add-self.result (noted c.args.self.now.notes) (noted c.keep.new.self)
    c.args.self.now.bad c.either-self.result c.args.out.now.items _
    c.in_ok-text.field-0.text.items c.deref.result.now _ c.in_ok-text.field-0.tree
    c.as_ref-before.ensures.value c.in_ok-text.ensures.judged c.deref.ensures.value
    c.in_ok-extend_from_slice.ensures.items c.in_ok-keep.ensures (c.either-self.ensures
    ∙ ap (λ (v : Bool). c.args.self.now.bad || v) (none_is _ _ c.is_none-refused.ensures))
    (λ few. omega (arith, c.saturating_add-self.ensures, few))

pub returns-clause-json : goal.returns-clause-json
returns-clause-json c =
    gather_text c.args.self.now.form c.args.out.now.items _ c.deref.result.now
    c.in_ok-text.field-0.text.items
    c.deref.ensures.value c.in_ok-extend_from_slice.ensures.items c.in_ok-text.ensures.json

use Rattle.std.proofs.Common.{refl}
use Rattle.std.specs.Option.{option_copied}
use Rattle.reset_log.proofs.Judged.{in_text, in_short}
use Rattle.reset_list.specs.declared.shown.ListShown.{ListShown}
use Rattle.reset_log.proofs.InJson.{in_lines_if}
use Rattle.reset_log.proofs.shown.show_judged.Goals as goal

pub returns-in_ok-shown-in-Text-clause-judged : goal.returns-in_ok-shown-in-Text-clause-judged
returns-in_ok-shown-in-Text-clause-judged c =
    rw c.in-Text.is
    (in_text c.in-Text.standard c.args.number (option_copied c.args.before) c.args.reset.now c.deref.result.now c.as_slice-list.result.now _ _ _
    (rw (c.deref.ensures.value, c.in_ok-put_head-in-Text.ensures, c.new-head.ensures.items) refl) c.as_slice-list.ensures c.compared-old.ensures c.in_ok-shown-in-Text.ensures)

pub returns-in-Json-clause-json : goal.returns-in-Json-clause-json
returns-in-Json-clause-json c =
    in_lines_if (λ (shown : ListShown). shown.text.items) c.args.form c.reset_line.result c.reset_line.ensures.json

pub returns-in_ok-shown-in-Short-clause-judged : goal.returns-in_ok-shown-in-Short-clause-judged
returns-in_ok-shown-in-Short-clause-judged c =
    rw c.in-Short.is
    (in_short c.in-Short.standard c.args.number (option_copied c.args.before) c.args.reset.now c.deref-in-Short.result.now c.as_slice-list-in-Short.result.now _ _
    (rw (c.deref-in-Short.ensures.value, c.in_ok-put_head-in-Short.ensures, c.new-head-in-Short.ensures.items) refl) c.as_slice-list-in-Short.ensures c.in_ok-shown-in-Short.ensures)

use Rattle.std.proofs.Common.{refl}
use Rattle.std.specs.Option.{option_copied}
use Rattle.bus_json.proofs.Lemmas.{one_line}
use Rattle.nosy_dump.proofs.Shown.{in_text, in_short}
use Rattle.nosy_dump.proofs.AsJson.{not_json, short_no_json}
use Rattle.nosy_dump.proofs.Reading.{map_ok}
use Rattle.nosy_dump.proofs.dump.show_judged.Goals as goal

pub returns-in_ok-shown-in-Text-clause-judged : goal.returns-in_ok-shown-in-Text-clause-judged
returns-in_ok-shown-in-Text-clause-judged c =
    rw c.in-Text.is
    (in_text c.in-Text.standard c.args.number c.args.reset.now c.deref.result.now
    c.as_slice-list.result.now _ (option_copied c.args.before) _
    (rw (c.deref.ensures.value, c.in_ok-head-in-Text.ensures) refl) c.as_slice-list.ensures
    c.in_ok-shown-in-Text.ensures)

pub returns-in_ok-shown-in-Text-clause-json : goal.returns-in_ok-shown-in-Text-clause-json
returns-in_ok-shown-in-Text-clause-json c = not_json c.args.form c.in-Text.standard _ c.in-Text.is

pub returns-in-Json-clause-json : goal.returns-in-Json-clause-json
returns-in-Json-clause-json c =
    map_ok c.reset_line.result _ _ (λ shown is standard json. one_line shown.text.items is)
    c.reset_line.ensures.json

pub returns-in_ok-shown-in-Short-clause-judged : goal.returns-in_ok-shown-in-Short-clause-judged
returns-in_ok-shown-in-Short-clause-judged c =
    rw c.in-Short.is
    (in_short c.in-Short.standard c.args.number c.args.reset.now c.deref-in-Short.result.now
    c.as_slice-list-in-Short.result.now _ (option_copied c.args.before) _
    (rw (c.deref-in-Short.ensures.value, c.in_ok-head-in-Short.ensures) refl) c.as_slice-list-in-Short.ensures
    c.in_ok-shown-in-Short.ensures)

pub returns-in_ok-shown-in-Short-clause-json : goal.returns-in_ok-shown-in-Short-clause-json
returns-in_ok-shown-in-Short-clause-json c = short_no_json c.args.form c.in-Short.standard _ c.in-Short.is

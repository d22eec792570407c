use Rattle.nosy_dump.proofs.AsJson.{not_json, short_no_json}
use Rattle.nosy_dump.proofs.Reading.{map_ok}
use Rattle.nosy_dump.proofs.dump.last_text.Goals as goal

pub returns-in-Text-clause-json : goal.returns-in-Text-clause-json
returns-in-Text-clause-json c =
    map_ok c.end_text.result _ _ (λ text is. not_json c.args.form c.in-Text.field-0 text.items
    c.in-Text.is) c.end_text.ensures

pub returns-in-Short-clause-json : goal.returns-in-Short-clause-json
returns-in-Short-clause-json c =
    map_ok c.end_text-in-Short.result _ _ (λ text is. short_no_json c.args.form c.in-Short.field-0 text.items
    c.in-Short.is) c.end_text-in-Short.ensures

pub returns-in-Json-clause-json : goal.returns-in-Json-clause-json
returns-in-Json-clause-json c =
    map_ok c.end_lines.result _ _ (λ text lines standard is. lines) c.end_lines.ensures.json

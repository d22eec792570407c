use Rattle.bus_json.proofs.Lemmas.{one_line, all_lines}
use Rattle.nosy_dump.proofs.values.end_lines.Goals as goal

pub returns-clause-json : goal.returns-clause-json
returns-clause-json c =
    rw (c.in_ok-extend_from_slice.ensures.items, c.deref.ensures.value)
    (all_lines _ _ c.in_ok-text.ensures.json (one_line _ c.in_ok-line.ensures.json))

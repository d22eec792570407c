use Rattle.bus_json.proofs.Lemmas.{one_line, all_lines}
use Rattle.bus_view.proofs.explain.all_explained.Goals as goal

pub returns-clause-json : goal.returns-clause-json
returns-clause-json c = λ json.
    simp (c.in_ok-extend_from_slice.ensures.items, c.in_ok-put_told.ensures.told, c.new-text.ensures.items, c.deref.ensures.value)
    (all_lines _ _ (one_line _ (c.in_ok-put_told.ensures.json json)) (c.in_ok-behind.ensures.json json))

use Rattle.std.proofs.Common.{◌≡◌, ◌∙◌, List, [], ◌∷◌, ◌++◌, ap, append_assoc}
use Rattle.json.specs.Token.{Token}
use Rattle.json.specs.Print.{print}
use Rattle.json.specs.Tree.{json_tokens}
use Rattle.bus_json.proofs.Lemmas.{json_line_of}
use Rattle.nosy_dump.specs.Notes.{noted}
use Rattle.nosy_dump.specs.Json.{totals_value}
use Rattle.nosy_dump.proofs.Shallow.{totals_shallow}
use Rattle.nosy_dump.proofs.values.totals_line.Goals as goal

pub returns-clause-line : goal.returns-clause-line
returns-clause-line c =
    let e : c.close_object.new.self ≡ json_tokens (totals_value (noted c.args.notes.now)) =
    simp (
      c.in_ok-close_object.ensures,
      c.in_ok-put_most.ensures,
      c.most.ensures,
      c.in_ok-number_member-2.ensures,
      c.in_ok-number_member.ensures,
      c.in_ok-open_object.ensures,
      c.in_ok-key.ensures,
      c.in_ok-open_schema.ensures,
      c.new-out.ensures,
      append_assoc,
    ) in
    c.in_ok-line.ensures.line ∙ ap (λ (ts : List Token). print ts ++ 10 ∷ []) e

pub returns-clause-json : goal.returns-clause-json
returns-clause-json c =
    let e : c.close_object.new.self ≡ json_tokens (totals_value (noted c.args.notes.now)) =
    simp (
      c.in_ok-close_object.ensures,
      c.in_ok-put_most.ensures,
      c.most.ensures,
      c.in_ok-number_member-2.ensures,
      c.in_ok-number_member.ensures,
      c.in_ok-open_object.ensures,
      c.in_ok-key.ensures,
      c.in_ok-open_schema.ensures,
      c.new-out.ensures,
      append_assoc,
    ) in
    json_line_of (totals_value (noted c.args.notes.now)) _ _ e c.into_line.ensures.reads_back
    (totals_shallow (noted c.args.notes.now)) c.in_ok-line.ensures.line

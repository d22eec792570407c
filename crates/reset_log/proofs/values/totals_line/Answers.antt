use Rattle.std.proofs.Common.{◌≡◌, ◌∙◌, List, [], ◌∷◌, ◌++◌, ap, length, append_assoc}
use Rattle.json.specs.Token.{Token}
use Rattle.json.specs.Print.{print}
use Rattle.json.specs.Tree.{json_tokens}
use Rattle.bus_json.proofs.Lemmas.{json_line_of}
use Rattle.reset_log.proofs.Shallow.{totals_shallow}
use Rattle.reset_log.specs.Notes.{noted}
use Rattle.reset_log.specs.Json.{totals_value}
use Rattle.reset_log.proofs.values.totals_line.Goals as goal

pub returns-clause-line : goal.returns-clause-line
returns-clause-line c =
    let cards : c.len.result ≡ length (noted c.args.notes.now).cards = c.len.ensures in
    let e : c.close_object.new.self ≡ json_tokens (totals_value (noted c.args.notes.now)) = simp (c.in_ok-close_object.ensures, c.in_ok-put_most.ensures, c.most.ensures, c.in_ok-number_member-3.ensures, cards, c.in_ok-number_member-2.ensures, c.in_ok-number_member.ensures, c.in_ok-open_object.ensures, c.in_ok-key.ensures, c.in_ok-open_schema.ensures, c.new-out.ensures, append_assoc) in
    c.in_ok-line.ensures.line ∙ ap (λ (ts : List Token). print ts ++ 10 ∷ []) e

pub returns-clause-json : goal.returns-clause-json
returns-clause-json c =
    let cards : c.len.result ≡ length (noted c.args.notes.now).cards = c.len.ensures in
    let e : c.close_object.new.self ≡ json_tokens (totals_value (noted c.args.notes.now)) = simp (c.in_ok-close_object.ensures, c.in_ok-put_most.ensures, c.most.ensures, c.in_ok-number_member-3.ensures, cards, c.in_ok-number_member-2.ensures, c.in_ok-number_member.ensures, c.in_ok-open_object.ensures, c.in_ok-key.ensures, c.in_ok-open_schema.ensures, c.new-out.ensures, append_assoc) in
    json_line_of (totals_value (noted c.args.notes.now)) _ _ e c.into_line.ensures.reads_back (totals_shallow (noted c.args.notes.now)) c.in_ok-line.ensures.line

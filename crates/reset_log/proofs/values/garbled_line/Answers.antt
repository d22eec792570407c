use Rattle.std.proofs.Common.{◌≡◌, ◌∙◌, List, [], ◌∷◌, ◌++◌, ap, append_assoc, arith}
use Rattle.json.specs.Token.{Token}
use Rattle.json.specs.Print.{print}
use Rattle.json.specs.Tree.{json_tokens}
use Rattle.reset_log.specs.Json.{garbled_value}
use Rattle.bus_json.proofs.Lemmas.{json_line_of}
use Rattle.reset_log.proofs.values.garbled_line.Goals as goal

pub returns-clause-line : goal.returns-clause-line
returns-clause-line c =
    let e : c.close_object.new.self ≡ json_tokens (garbled_value c.args.number) = simp (c.in_ok-close_object.ensures, c.in_ok-truth_member.ensures, c.in_ok-number_member.ensures, c.in_ok-open_schema.ensures, c.new-out.ensures, append_assoc) in
    c.in_ok-line.ensures.line ∙ ap (λ (ts : List Token). print ts ++ 10 ∷ []) e

pub returns-clause-json : goal.returns-clause-json
returns-clause-json c =
    let e : c.close_object.new.self ≡ json_tokens (garbled_value c.args.number) = simp (c.in_ok-close_object.ensures, c.in_ok-truth_member.ensures, c.in_ok-number_member.ensures, c.in_ok-open_schema.ensures, c.new-out.ensures, append_assoc) in
    json_line_of (garbled_value c.args.number) _ _ e c.into_line.ensures.reads_back (omega arith) c.in_ok-line.ensures.line

use Rattle.std.proofs.Common.{◌≡◌, ◌∙◌, List, [], ◌∷◌, ◌++◌, ap, append_assoc, arith}
use Rattle.json.specs.Token.{Token}
use Rattle.json.specs.Print.{print}
use Rattle.json.specs.Tree.{json_tokens}
use Rattle.std.specs.Prelude.{codes}
use Rattle.std.specs.Option.{option_copied}
use Rattle.json.specs.Json.{member, no_members}
use Rattle.bus_json.specs.Text.{numeral}
use Rattle.reset_log.specs.Json.{lacking_value}
use Rattle.reset_log.proofs.Tokens.{head_written}
use Rattle.bus_json.proofs.Lemmas.{json_line_of}
use Rattle.reset_log.proofs.Shallow.{head_shallow}
use Rattle.reset_log.proofs.values.lacking_line.Goals as goal

pub returns-clause-line : goal.returns-clause-line
returns-clause-line c =
    let e : c.close_object.new.self ≡ json_tokens (lacking_value c.args.number (option_copied c.args.before) c.args.reset.now c.args.lacks) = simp (c.in_ok-close_object.ensures, c.in_ok-number_member.ensures, c.from.ensures, c.in_ok-put_head.ensures, head_written c.args.number (option_copied c.args.before) c.args.reset.now (member (codes "lacks") (numeral c.args.lacks) no_members), c.in_ok-open_schema.ensures, c.new-out.ensures, append_assoc) in
    c.in_ok-line.ensures.line ∙ ap (λ (ts : List Token). print ts ++ 10 ∷ []) e

pub returns-clause-json : goal.returns-clause-json
returns-clause-json c =
    let e : c.close_object.new.self ≡ json_tokens (lacking_value c.args.number (option_copied c.args.before) c.args.reset.now c.args.lacks) = simp (c.in_ok-close_object.ensures, c.in_ok-number_member.ensures, c.from.ensures, c.in_ok-put_head.ensures, head_written c.args.number (option_copied c.args.before) c.args.reset.now (member (codes "lacks") (numeral c.args.lacks) no_members), c.in_ok-open_schema.ensures, c.new-out.ensures, append_assoc) in
    json_line_of (lacking_value c.args.number (option_copied c.args.before) c.args.reset.now c.args.lacks) _ _ e c.into_line.ensures.reads_back (omega (arith, head_shallow c.args.number (option_copied c.args.before) c.args.reset.now (member (codes "lacks") (numeral c.args.lacks) no_members))) c.in_ok-line.ensures.line

use Rattle.std.proofs.Common.{◌≡◌, ◌∙◌, List, [], ◌∷◌, ◌++◌, ap, append_assoc, arith}
use Rattle.json.specs.Token.{Token}
use Rattle.json.specs.Print.{print}
use Rattle.json.specs.Tree.{json_tokens}
use Rattle.std.specs.Prelude.{codes, map}
use Rattle.json.specs.Json.{string, member, no_members}
use Rattle.reset_log.specs.Json.{ascii, told_value}
use Rattle.reset_log.proofs.Tokens.{known_written}
use Rattle.reset_log.proofs.Shallow.{known_shallow}
use Rattle.bus_json.proofs.Lemmas.{json_line_of}
use Rattle.reset_log.proofs.values.told_line.Goals as goal

pub returns-clause-line : goal.returns-clause-line
returns-clause-line c =
    let e : c.close_object.new.self ≡ json_tokens (told_value c.args.number c.args.time c.args.words.now) = simp (c.in_ok-close_object.ensures, c.in_ok-put_ascii.ensures, c.in_ok-key.ensures, c.in_ok-put_micros.ensures, known_written (codes "time") c.args.time (member (codes "kernel") (string (map ascii c.args.words.now)) no_members), c.in_ok-number_member.ensures, c.in_ok-open_schema.ensures, c.new-out.ensures, append_assoc) in
    c.in_ok-line.ensures.line ∙ ap (λ (ts : List Token). print ts ++ 10 ∷ []) e

pub returns-clause-json : goal.returns-clause-json
returns-clause-json c =
    let e : c.close_object.new.self ≡ json_tokens (told_value c.args.number c.args.time c.args.words.now) = simp (c.in_ok-close_object.ensures, c.in_ok-put_ascii.ensures, c.in_ok-key.ensures, c.in_ok-put_micros.ensures, known_written (codes "time") c.args.time (member (codes "kernel") (string (map ascii c.args.words.now)) no_members), c.in_ok-number_member.ensures, c.in_ok-open_schema.ensures, c.new-out.ensures, append_assoc) in
    json_line_of (told_value c.args.number c.args.time c.args.words.now) _ _ e c.into_line.ensures.reads_back (omega (arith, known_shallow (codes "time") c.args.time (member (codes "kernel") (string (map ascii c.args.words.now)) no_members))) c.in_ok-line.ensures.line

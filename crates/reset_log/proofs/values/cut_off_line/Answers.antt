use Rattle.std.proofs.Common.{◌≡◌, ◌∙◌, List, [], ◌∷◌, ◌++◌, ap, sym, append_assoc, arith}
use Rattle.std.specs.Prelude.{codes, decimal}
use Rattle.json.specs.Token.{Token, begin_object, end_object, key, number}
use Rattle.json.specs.Print.{print}
use Rattle.json.specs.Json.{member, no_members}
use Rattle.json.specs.Tree.{json_tokens}
use Rattle.bus_json.specs.Text.{numeral}
use Rattle.reset_log.specs.declared.notes.Pending.{Pending}
use Rattle.reset_log.specs.Json.{cut_off_value}
use Rattle.reset_log.specs.codings.Tokens.{name_tokens}
use Rattle.reset_log.proofs.Tokens.{name_written}
use Rattle.bus_json.proofs.Lemmas.{json_line_of}
use Rattle.reset_log.proofs.Shallow.{name_shallow}
use Rattle.reset_log.proofs.values.cut_off_line.Goals as goal

written : (p : Pending) (a b c d : List Token) → a ≡ begin_object ∷ key (codes "schema") ∷ number (decimal 1) ∷ [] →
    b ≡ a ++ name_tokens p.number p.reset → c ≡ b ++ key (codes "lacks") ∷ number (decimal p.left) ∷ [] →
    d ≡ c ++ end_object ∷ [] → d ≡ json_tokens (cut_off_value p)
written p a b c d ea eb ec ed =
    let name = name_tokens p.number p.reset in
    let left = key (codes "lacks") ∷ number (decimal p.left) ∷ [] in
    let whole : d ≡ a ++ (name ++ (left ++ end_object ∷ [])) =
    ed ∙ ap (λ (ts : List Token). ts ++ end_object ∷ []) (ec ∙ ap (λ (ts : List Token). ts ++ left) eb)
    ∙ append_assoc (a ++ name) left (end_object ∷ []) ∙ append_assoc a name (left ++ end_object ∷ [])
    in
    whole ∙ ap (λ (ts : List Token). ts ++ (name ++ (left ++ end_object ∷ []))) ea
    ∙ ap (λ (ts : List Token). begin_object ∷ key (codes "schema") ∷ number (decimal 1) ∷ ts)
    (sym (name_written p.number p.reset (member (codes "lacks") (numeral p.left) no_members)))

pub returns-clause-line : goal.returns-clause-line
returns-clause-line c =
    let e = written c.args.pending.now _ _ _ _ (c.in_ok-open_schema.ensures ∙ ap (λ (ts : List Token). ts ++ begin_object ∷ key (codes "schema") ∷ number (decimal 1) ∷ []) c.new-out.ensures) c.in_ok-put_name.ensures (rw c.from.ensures at c.in_ok-number_member.ensures) c.in_ok-close_object.ensures in
    c.in_ok-line.ensures.line ∙ ap (λ (ts : List Token). print ts ++ 10 ∷ []) e

pub returns-clause-json : goal.returns-clause-json
returns-clause-json c =
    let e = written c.args.pending.now _ _ _ _ (c.in_ok-open_schema.ensures ∙ ap (λ (ts : List Token). ts ++ begin_object ∷ key (codes "schema") ∷ number (decimal 1) ∷ []) c.new-out.ensures) c.in_ok-put_name.ensures (rw c.from.ensures at c.in_ok-number_member.ensures) c.in_ok-close_object.ensures in
    json_line_of (cut_off_value c.args.pending.now) _ _ e c.into_line.ensures.reads_back
    (omega (arith, name_shallow c.args.pending.now.number c.args.pending.now.reset (member (codes "lacks") (numeral c.args.pending.now.left) no_members)))
    c.in_ok-line.ensures.line

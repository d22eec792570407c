-- The members of a reset, one behind the other, are those that stand first in its object.
use Rattle.std.proofs.Common.{◌≡◌, ◌∙◌, ℕ, Option, Some, None, List, [], ◌∷◌, ◌++◌, refl, sym, ap, append_assoc}
use Rattle.std.specs.Prelude.{codes, decimal}
use Rattle.json.specs.Json.{Members, member}
use Rattle.json.specs.Token.{Token, key, number}
use Rattle.json.specs.Tree.{json_tokens, members_tokens}
use Rattle.bus_json.specs.Text.{numeral}
use Rattle.log_line.specs.declared.line.Reset.{Reset}
use Rattle.reset_log.specs.declared.cards.Known.{Known}
use Rattle.reset_log.specs.Noted.{since, missing}
use Rattle.reset_log.specs.Json.{card_value, name_members, known_member, head_members}
use Rattle.reset_log.specs.codings.Tokens.{name_tokens, known_tokens, head_tokens}

pub name_written : (n : ℕ) (r : Reset) (rest : Members) →
    members_tokens (name_members n r rest) ≡ name_tokens n r ++ members_tokens rest
name_written n r rest =
    ap (λ (ts : List Token). key (codes "line") ∷ number (decimal n) ∷ key (codes "card") ∷ ts)
    (sym (append_assoc (json_tokens (card_value r.card)) (key (codes "generation") ∷ number (decimal r.generation) ∷ []) (members_tokens rest)))

pub known_written : (name : List ℕ) (value : Option ℕ) (rest : Members) →
    members_tokens (known_member name value rest) ≡ known_tokens name value ++ members_tokens rest
known_written name None rest = refl
known_written name (Some n) rest = refl

pub head_written : (n : ℕ) (before : Option Known) (r : Reset) (rest : Members) →
    members_tokens (head_members n before r rest) ≡ head_tokens n before r ++ members_tokens rest
head_written n before r rest =
    let local = known_member (codes "local") r.local rest in
    let last = member (codes "missing") (numeral (missing before r)) local in
    let after = known_member (codes "after") (since before r) last in
    let few = λ (ts : List Token). key (codes "missing") ∷ number (decimal (missing before r)) ∷ ts in
    let known = few (known_tokens (codes "local") r.local) in
    let was = known_tokens (codes "after") (since before r) in
    let now = known_tokens (codes "time") r.time in
    name_written n r (known_member (codes "time") r.time after)
    ∙ ap (λ (ts : List Token). name_tokens n r ++ ts)
    (known_written (codes "time") r.time after
    ∙ ap (λ (ts : List Token). now ++ ts)
    (known_written (codes "after") (since before r) last ∙ ap (λ (ts : List Token). was ++ few ts) (known_written (codes "local") r.local rest) ∙ sym (append_assoc was known (members_tokens rest)))
    ∙ sym (append_assoc now (was ++ known) (members_tokens rest)))
    ∙ sym (append_assoc (name_tokens n r) (now ++ (was ++ known)) (members_tokens rest))

-- What the members of a reset are written as.
use Rattle.std.specs.Prelude.{ℕ, Option, Some, None, List, [], ◌∷◌, ◌++◌, codes, decimal}
use Rattle.json.specs.Token.{Token, key, number}
use Rattle.json.specs.Tree.{json_tokens}
use Rattle.log_line.specs.declared.line.Reset.{Reset}
use Rattle.reset_log.specs.declared.cards.Known.{Known}
use Rattle.reset_log.specs.Noted.{since, missing}
use Rattle.reset_log.specs.Json.{card_value}

abbrev pub name_tokens : ℕ → Reset → List Token
name_tokens n r =
    key (codes "line") ∷ number (decimal n)
    ∷ key (codes "card") ∷ (json_tokens (card_value r.card)
    ++ key (codes "generation") ∷ number (decimal r.generation) ∷ [])

abbrev pub known_tokens : List ℕ → Option ℕ → List Token
known_tokens name None = []
known_tokens name (Some n) = key name ∷ number (decimal n) ∷ []

abbrev pub head_tokens : ℕ → Option Known → Reset → List Token
head_tokens n before r =
    name_tokens n r
    ++ (known_tokens (codes "time") r.time
    ++ (known_tokens (codes "after") (since before r)
    ++ key (codes "missing") ∷ number (decimal (missing before r))
    ∷ known_tokens (codes "local") r.local))

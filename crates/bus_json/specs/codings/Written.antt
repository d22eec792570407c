-- What the members of a node are written as.
use Rattle.std.specs.Prelude.{ℕ, Option, Some, None, List, [], ◌∷◌, codes, decimal}
use Rattle.self_id.specs.declared.node.Attrs.{Attrs}
use Rattle.json.specs.Token.{Token, key, string, number, boolean}

abbrev pub name_tokens : Option (List ℕ) → List Token
name_tokens None = []
name_tokens (Some name) = key (codes "name") ∷ string name ∷ []

abbrev pub attrs_tokens : Attrs → List Token
attrs_tokens a =
    key (codes "link") ∷ boolean a.link
    ∷ key (codes "gap") ∷ number (decimal a.gap)
    ∷ key (codes "speed") ∷ number (decimal a.speed)
    ∷ key (codes "contender") ∷ boolean a.contender
    ∷ key (codes "power") ∷ number (decimal a.power)
    ∷ key (codes "initiated") ∷ boolean a.initiated ∷ []

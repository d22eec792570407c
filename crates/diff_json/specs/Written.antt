-- What the members of a change are written as.
use Rattle.std.specs.Prelude.{ℕ, List, [], ◌∷◌, codes, decimal}
use Rattle.bus_diff.specs.declared.pair.Pair.{Pair}
use Rattle.json.specs.Token.{Token, key, number}

abbrev pub pair_tokens : Pair → List Token
pair_tokens p =
    key (codes "old") ∷ number (decimal p.old) ∷ key (codes "new") ∷ number (decimal p.new) ∷ []

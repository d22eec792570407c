-- The text of a JSON value (RFC 8259), and what it is read as.
use Rattle.std.specs.Prelude.{ℕ, List, [], ◌∷◌, ◌++◌, decimal}
use Rattle.json.specs.Json.{Json, number}
use Rattle.json.specs.Print.{print}
use Rattle.json.specs.Tree.{json_tokens}

-- a number without a sign, a point or an exponent
abbrev pub numeral : ℕ → Json
numeral n = number (decimal n)

-- without a space, and with the escapes that strings need
abbrev pub json_text : Json → List ℕ
json_text value = print (json_tokens value)

-- the text of a value, and a line feed
abbrev pub json_line : Json → List ℕ
json_line value = json_text value ++ 10 ∷ []

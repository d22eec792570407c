-- The words that ask for an import.
use Rattle.std.specs.Prelude.{◌≡◌, ℕ, List, [], ◌∷◌, map, codes, string_bytes, String}
use Rattle.std.specs.Global.{Global}

abbrev pub AsksImport : List (String Global) → Type 0
AsksImport words = map string_bytes words ≡ codes "import" ∷ []

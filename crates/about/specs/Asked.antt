-- The words by which a program is asked for its help or its version.
use Rattle.std.specs.Prelude.{◌≡◌, ℕ, ◌⊎◌, List, [], ◌∷◌, map, codes, string_bytes, String}
use Rattle.std.specs.Global.{Global}
use Rattle.about.specs.declared.asked.About.{About}
use Rattle.about.specs.declared.asked.About.TheVariants.{Help, Version}

-- the words for each
abbrev pub AreWordsFor : About → List (List ℕ) → Type 0
AreWordsFor Help words = words ≡ codes "--help" ∷ [] ⊎ words ≡ codes "-h" ∷ []
AreWordsFor Version words = words ≡ codes "--version" ∷ []

-- the words ask for it
abbrev pub AsksFor : List (String Global) → About → Type 0
AsksFor words about = AreWordsFor about (map string_bytes words)

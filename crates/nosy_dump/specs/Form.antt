-- The words that ask for the resets of a dump.
use Rattle.std.specs.Prelude.{◌≡◌, ℕ, List, ◌∷◌, map, codes, string_bytes, String}
use Rattle.std.specs.Global.{Global}
use Rattle.reset_list.specs.declared.form.LogForm.{LogForm}
use Rattle.reset_list.specs.Form.{options}

abbrev pub AreWordsBy : LogForm → List (List ℕ) → Type 0
AreWordsBy form words = words ≡ codes "nosy" ∷ options form

abbrev pub AsksDump : List (String Global) → LogForm → Type 0
AsksDump words form = AreWordsBy form (map string_bytes words)

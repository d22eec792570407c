-- The words that ask for the difference of two captures.
use Rattle.std.specs.Prelude.{◌≡◌, ℕ, List, [], ◌∷◌, map, codes, string_bytes, String}
use Rattle.std.specs.Global.{Global}
use Rattle.self_id.specs.declared.standard.Standard.{Standard}
use Rattle.self_id.specs.declared.standard.Standard.TheVariants.{Ieee1995, Ieee2000}
use Rattle.diff_form.specs.declared.form.DiffForm.{DiffForm}
use Rattle.diff_form.specs.declared.form.DiffForm.TheVariants.{Text, Json}

abbrev pub standard_of : DiffForm → Standard
standard_of (Text standard) = standard
standard_of (Json standard) = standard

-- what stands behind the word of the form: by IEEE 1394a-2000, or with `--1995` by IEEE Std 1394-1995; as text, or
-- with `--json` as a line of JSON
abbrev pub options : DiffForm → List (List ℕ)
options (Text Ieee2000) = []
options (Text Ieee1995) = codes "--1995" ∷ []
options (Json Ieee2000) = codes "--json" ∷ []
options (Json Ieee1995) = codes "--1995" ∷ codes "--json" ∷ []

abbrev pub AreWordsBy : DiffForm → List (List ℕ) → Type 0
AreWordsBy form words = words ≡ codes "diff" ∷ options form

abbrev pub AsksDiff : List (String Global) → DiffForm → Type 0
AsksDiff words form = AreWordsBy form (map string_bytes words)

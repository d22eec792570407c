-- How the resets of a log or a dump are shown: by a standard, as text, as one line for each, or as lines of JSON.
use Rattle.std.specs.Prelude.{ℕ, List, [], ◌∷◌, codes}
use Rattle.self_id.specs.declared.standard.Standard.{Standard}
use Rattle.self_id.specs.declared.standard.Standard.TheVariants.{Ieee1995, Ieee2000}
use Rattle.reset_list.specs.declared.form.LogForm.{LogForm}
use Rattle.reset_list.specs.declared.form.LogForm.TheVariants.{Text, Short, Json}

abbrev pub standard_of : LogForm → Standard
standard_of (Text standard) = standard
standard_of (Short standard) = standard
standard_of (Json standard) = standard

-- what stands behind the word of the form: by IEEE 1394a-2000, or with `--1995` by IEEE Std 1394-1995; as text,
-- with `--short` as one line for each, or with `--json` as lines of JSON
abbrev pub options : LogForm → List (List ℕ)
options (Text Ieee2000) = []
options (Text Ieee1995) = codes "--1995" ∷ []
options (Short Ieee2000) = codes "--short" ∷ []
options (Short Ieee1995) = codes "--1995" ∷ codes "--short" ∷ []
options (Json Ieee2000) = codes "--json" ∷ []
options (Json Ieee1995) = codes "--1995" ∷ codes "--json" ∷ []

-- The words that ask for a bus with the names of its nodes.
use Rattle.std.specs.Prelude.{◌≡◌, ℕ, List, [], ◌∷◌, map, codes, string_bytes, String}
use Rattle.std.specs.Global.{Global}
use Rattle.self_id.specs.declared.standard.Standard.{Standard}
use Rattle.self_id.specs.declared.standard.Standard.TheVariants.{Ieee1995, Ieee2000}
use Rattle.named_form.specs.declared.form.NamedForm.{NamedForm}
use Rattle.named_form.specs.declared.form.NamedForm.TheVariants.{Tree, Dot}

abbrev pub standard_of : NamedForm → Standard
standard_of (Tree standard) = standard
standard_of (Dot standard) = standard

abbrev pub command : NamedForm → List ℕ
command (Tree standard) = codes "tree"
command (Dot standard) = codes "dot"

-- by IEEE 1394a-2000, or with `--1995` by IEEE Std 1394-1995
abbrev pub options : Standard → List (List ℕ)
options Ieee2000 = codes "--names" ∷ []
options Ieee1995 = codes "--1995" ∷ codes "--names" ∷ []

abbrev pub AreWordsBy : NamedForm → List (List ℕ) → Type 0
AreWordsBy form words = words ≡ command form ∷ options (standard_of form)

abbrev pub AsksNamed : List (String Global) → NamedForm → Type 0
AsksNamed words form = AreWordsBy form (map string_bytes words)

-- The names of nodes, by their numbers.
use Rattle.std.proofs.Common.{◌≡◌, ◌∙◌, ℕ, ◌<◌, List, [], length, get_or, sym}
use Rattle.std.proofs.lemmas.List.{get_or_default}
use Rattle.std.proofs.lemmas.Option.{unwrap_or-slice_get}
use Rattle.script_text.specs.ReportText.{Names, name_of}

-- the name that stands at a number
pub name-at : (names : Names) (node : ℕ) (name d : List ℕ) → node < length names →
    name ≡ get_or names node d → name ≡ name_of names node
name-at names node name d named at =
    at ∙ sym (unwrap_or-slice_get names node [] ∙ get_or_default names node [] d named)

-- Each bus tree has maps, and their text.
use Rattle.std.specs.Prelude.{ℕ, List}
use Rattle.topology_stack.specs.Tree.{Tree, IsBusTree}
use Rattle.script_text.specs.Maps.{IsMapsText}

pub record HasMapsText (generation : ℕ) (t : Tree) : Type 0 where
  pub text : List ℕ
  pub is : IsMapsText generation t text

abbrev pub MapsHaveTexts : Type 0
MapsHaveTexts = (generation : ℕ) (t : Tree) → IsBusTree t → HasMapsText generation t

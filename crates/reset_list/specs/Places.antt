-- A table that says of each key where the first item with it stands in a list.
use Rattle.std.specs.Prelude.{◌≡◌, ℕ, Bool, List}
use Rattle.std.specs.BTreeMap.{BTreeMap, get}
use Rattle.std.specs.declared.cmp.Ordering.{Ordering}
use Rattle.reset_list.specs.Update.{place_of}

abbrev pub ArePlaces : {K X : Type 0} → (K → K → Ordering) → (K → X → Bool) → BTreeMap K ℕ → List X → Type 0
ArePlaces {K = K} cmp has table xs = (key : K) → get cmp table key ≡ place_of (has key) xs

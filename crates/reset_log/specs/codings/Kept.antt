-- How the cards of a log are kept.
use Rattle.std.specs.Prelude.{◌≡◌, ℕ, zero, suc, true, is_some, Some, List, [], ◌∷◌, slice_get}
use Rattle.std.specs.BTreeMap.{BTreeMap}
use Rattle.std.specs.BTreeSet.{BTreeSet, contains}
use Rattle.std.specs.Ordering.{nat_cmp}
use Rattle.reset_list.specs.Places.{ArePlaces}
use Rattle.reset_log.specs.declared.cards.Known.{Known}
use Rattle.reset_log.specs.Noted.{is_of, forgotten}

-- a card that has a tree stands at one of these places
abbrev pub AreDrawn : BTreeSet ℕ → List Known → Type 0
AreDrawn drawn ks =
    (at : ℕ) (k : Known) → slice_get ks at ≡ Some k → is_some k.tree ≡ true →
    contains nat_cmp drawn at ≡ true

-- a table says where each card stands, and these are the places of those that may have a tree
pub record AreKept (places : BTreeMap ℕ ℕ) (drawn : BTreeSet ℕ) (ks : List Known) : Type 0 where
  pub placed : ArePlaces nat_cmp is_of places ks
  pub has_drawn : AreDrawn drawn ks

-- the cards with the tree of one of them forgotten
abbrev pub forgotten_at : ℕ → List Known → List Known
forgotten_at at [] = []
forgotten_at zero (k ∷ ks) = forgotten k ∷ ks
forgotten_at (suc at) (k ∷ ks) = k ∷ forgotten_at at ks

-- Where the tallies of nodes stand.
use Rattle.std.specs.Prelude.{ℕ, Bool, List}
use Rattle.std.specs.BTreeMap.{BTreeMap}
use Rattle.std.specs.Ordering.{nat_cmp, ordering_then}
use Rattle.std.specs.declared.cmp.Ordering.{Ordering}
use Rattle.reset_list.specs.declared.counts.Tally.{Tally}
use Rattle.reset_list.specs.Counts.{is_tally}
use Rattle.reset_list.specs.Places.{ArePlaces}

-- nodes by their cards, and then by their IDs
abbrev pub node_cmp : ℕ × ℕ → ℕ × ℕ → Ordering
node_cmp a b = ordering_then (nat_cmp a.0 b.0) (nat_cmp a.1 b.1)

abbrev pub is_of_node : ℕ × ℕ → Tally → Bool
is_of_node n t = is_tally n.0 n.1 t

abbrev pub AreTallied : BTreeMap (ℕ × ℕ) ℕ → List Tally → Type 0
AreTallied places ts = ArePlaces node_cmp is_of_node places ts

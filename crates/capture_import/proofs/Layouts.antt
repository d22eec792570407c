-- What stands first among quadlets that are taken for a topology map.
use Rattle.std.proofs.Common.{◌≡◌, ℕ, List, Bool, true, false, refl, drop}
use Rattle.std.specs.Prelude.{if◌then◌else◌}
use Rattle.capture_import.specs.List.{begins_pair, begins_map, layout_of}
use Rattle.capture_import.specs.declared.taken.Layout.{Layout}
use Rattle.capture_import.specs.declared.taken.Layout.TheVariants.{Pairs, Firsts, Buffer, Map}

go : (a b c : Bool) → Map ≡ (if a then Pairs else if b then Buffer else if c then Map else Firsts) →
    c ≡ true
go true b c e = absurd cc
go false true c e = absurd cc
go false false true e = refl
go false false false e = absurd cc

pub map_begins : (quads : List ℕ) → Map ≡ layout_of quads → begins_map quads ≡ true
map_begins quads e = go (begins_pair quads) (begins_pair (drop 1 quads)) (begins_map quads) e

-- The topology map (IEEE Std 1394-1995): generation, counts, and the self-ID packets of a bus.
use Rattle.std.specs.Prelude.{◌≡◌, ◌≢◌, ℕ, ◌+◌, ◌*◌, ◌/◌, ◌%◌, ◌^◌, ◌≤◌, List, ◌∷◌, length, drop, slice_index}
use Rattle.self_id.specs.Group.{node_count}
use Rattle.topology_map.specs.declared.fault.ImageFault.{ImageFault}
use Rattle.topology_map.specs.declared.fault.ImageFault.TheVariants.{Length, Crc, Counts, Memory}
use Rattle.topology_map.specs.Crc.{IsCrc}
use Rattle.topology_map.specs.Sealed.{IsSealed}

-- both counts as one quadlet: nodes in the high sixteen bits, quadlets in the low sixteen
abbrev pub counts_of : List ℕ → ℕ
counts_of list = 2 ^ 16 * node_count list + length list

-- quads are the image of the map of this generation, with so many nodes and this list
pub record IsMap (generation nodes : ℕ) (list quads : List ℕ) : Type 0 where
  pub nodes_are : nodes ≡ node_count list
  pub image : IsSealed (generation ∷ counts_of list ∷ list) quads

-- there are three quadlets, and the first tells in its high sixteen bits how many follow it
pub record HasLength (quads : List ℕ) : Type 0 where
  pub three : 3 ≤ length quads
  pub told : slice_index quads 0 / 2 ^ 16 + 1 ≡ length quads

-- Which fault quadlets have that are no image: the first of these rules that they break.
abbrev pub Refused : List ℕ → ImageFault → Type 0
-- the length doesn't fit
Refused quads (Length found) = ¬ HasLength quads × (found ≡ length quads)
-- the CRC in the low sixteen bits of the first quadlet isn't that of the others
Refused quads (Crc kept computed) =
    HasLength quads × (kept ≡ slice_index quads 0 % 2 ^ 16)
    × IsCrc (drop 1 quads) computed × (kept ≢ computed)
-- the third quadlet doesn't tell the counts of those behind it
Refused quads (Counts kept found) =
    HasLength quads × IsCrc (drop 1 quads) (slice_index quads 0 % 2 ^ 16)
    × (kept ≡ slice_index quads 2) × (found ≡ counts_of (drop 3 quads)) × (kept ≢ found)
-- want of memory is no fault of the quadlets
Refused quads (Memory e) = ⊥

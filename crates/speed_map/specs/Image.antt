-- The image of a speed map (IEEE Std 1394-1995): the generation, and the rows of bytes as quadlets.
use Rattle.std.specs.Prelude.{◌≡◌, ◌≢◌, ℕ, ◌+◌, ◌/◌, ◌%◌, ◌^◌, ◌≤◌, List, ◌∷◌, length, drop, slice_index}
use Rattle.quad_lanes.specs.Pairs.{quads_of}
use Rattle.topology_map.specs.Crc.{IsCrc}
use Rattle.topology_map.specs.Sealed.{IsSealed}
use Rattle.speed_map.specs.declared.fault.ImageFault.{ImageFault}
use Rattle.speed_map.specs.declared.fault.ImageFault.TheVariants.{Length, Crc, Rows, Memory}

-- quads are the image of these rows of 64 bytes, of which there are at most 63, in a generation
pub record IsImage (generation : ℕ) (rows quads : List ℕ) : Type 0 where
  pub whole : length rows % 64 ≡ 0
  pub few : length rows ≤ 4032
  pub image : IsSealed (generation ∷ quads_of rows) quads

-- there are two quadlets, and the first tells in its high sixteen bits how many follow it
pub record HasLength (quads : List ℕ) : Type 0 where
  pub two : 2 ≤ length quads
  pub told : slice_index quads 0 / 2 ^ 16 + 1 ≡ length quads

-- 16 quadlets a row stand behind the generation, of at most 63 rows
pub record HoldsRows (quads : List ℕ) : Type 0 where
  pub whole : length (drop 2 quads) % 16 ≡ 0
  pub few : length (drop 2 quads) ≤ 1008

-- Which fault quadlets have that are no image: the first of these rules that they break.
abbrev pub Refused : List ℕ → ImageFault → Type 0
-- the length doesn't fit
Refused quads (Length found) = ¬ HasLength quads × (found ≡ length quads)
-- the CRC in the low sixteen bits of the first quadlet isn't that of the others
Refused quads (Crc kept computed) =
    HasLength quads × (kept ≡ slice_index quads 0 % 2 ^ 16)
    × IsCrc (drop 1 quads) computed × (kept ≢ computed)
-- what stands behind the generation are no rows
Refused quads (Rows found) =
    HasLength quads × IsCrc (drop 1 quads) (slice_index quads 0 % 2 ^ 16)
    × ¬ HoldsRows quads × (found ≡ length (drop 2 quads))
-- want of memory is no fault of the quadlets
Refused quads (Memory e) = ⊥

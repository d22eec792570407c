-- A body of quadlets behind one quadlet that tells its length and its CRC (IEEE Std 1212).
use Rattle.std.specs.Prelude.{◌≡◌, ℕ, ◌+◌, ◌*◌, ◌^◌, List, ◌∷◌, length}
use Rattle.topology_map.specs.Crc.{IsCrc}

-- the length in the high sixteen bits, the CRC in the low sixteen
pub record IsSealed (body quads : List ℕ) : Type 0 where
  pub crc : ℕ
  pub crc_is : IsCrc body crc
  pub quads_are : quads ≡ (2 ^ 16 * length body + crc) ∷ body

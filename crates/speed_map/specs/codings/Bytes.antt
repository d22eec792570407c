-- Quadlets that break no rule of an image. No public contract cites this file: public clauses speak of the
-- image of some rows.
use Rattle.std.specs.Prelude.{ℕ, ◌%◌, ◌^◌, List, drop, slice_index}
use Rattle.topology_map.specs.Crc.{IsCrc}
use Rattle.speed_map.specs.Image.{HasLength, HoldsRows}

pub record TellsMap (quads : List ℕ) : Type 0 where
  pub length_told : HasLength quads
  pub crc_told : IsCrc (drop 1 quads) (slice_index quads 0 % 2 ^ 16)
  pub rows_told : HoldsRows quads

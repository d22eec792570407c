-- Quadlets that break no rule of an image, and the number of nodes that they tell. No public contract
-- cites this file: public clauses speak of the image of some parts.
use Rattle.std.specs.Prelude.{◌≡◌, ℕ, ◌%◌, ◌^◌, List, drop, slice_index}
use Rattle.self_id.specs.Group.{node_count}
use Rattle.topology_map.specs.Crc.{IsCrc}
use Rattle.topology_map.specs.Map.{counts_of, HasLength}

pub record TellsNodes (quads : List ℕ) (nodes : ℕ) : Type 0 where
  pub length_told : HasLength quads
  pub crc_told : IsCrc (drop 1 quads) (slice_index quads 0 % 2 ^ 16)
  pub counts_told : slice_index quads 2 ≡ counts_of (drop 3 quads)
  pub nodes_are : nodes ≡ node_count (drop 3 quads)

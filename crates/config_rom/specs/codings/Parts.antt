-- The parts of a ROM that is kept as its quadlets. No public contract cites this file.
use Rattle.std.specs.Prelude.{◌≡◌, ℕ, ◌+◌, ◌/◌, ◌%◌, ◌^◌, ◌<◌, ◌≤◌, List, length, slice_index, All, take, drop}
use Rattle.config_rom.specs.Layout.{info_len_of, root_of, length_at, crc_at, end_of}
use Rattle.config_rom.specs.Rom.{Parts}

abbrev pub parts_of : List ℕ → Parts
parts_of quads = record {
  info_len = info_len_of quads;
  crc_length = slice_index quads 0 / 2 ^ 16 % 2 ^ 8;
  crc = crc_at quads 0;
  info = take (info_len_of quads) (drop 1 quads);
  root_crc = crc_at quads (root_of quads);
  entries = take (length_at quads (root_of quads)) (drop (root_of quads + 1) quads);
  rest = drop (end_of quads (root_of quads)) quads;
}

-- the parts of a ROM are whole in these quadlets
pub record HasLayout (quads : List ℕ) : Type 0 where
  pub few : length quads ≤ 256
  pub info_two : 2 ≤ info_len_of quads
  pub info_whole : root_of quads ≤ length quads
  pub name : slice_index quads 1 ≡ 0x31333934
  pub root_whole : end_of quads (root_of quads) ≤ length quads
  pub fit : All (λ quad. quad < 2 ^ 32) quads

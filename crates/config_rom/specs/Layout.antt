-- Where the parts of a configuration ROM stand (IEEE Std 1212). Quadlet 0 has the length of the bus
-- information block in its first byte, crc_length in its second, and its CRC in the low sixteen
-- bits. The bus information block follows, and then the root directory. A block, which is a
-- directory or a leaf, begins with a header: its length in the high sixteen bits, its CRC in the
-- low sixteen.
use Rattle.std.specs.Prelude.{ℕ, ◌+◌, ◌/◌, ◌%◌, ◌^◌, List, slice_index}

abbrev pub info_len_of : List ℕ → ℕ
info_len_of quads = slice_index quads 0 / 2 ^ 24

-- the place of the root directory
abbrev pub root_of : List ℕ → ℕ
root_of quads = 1 + info_len_of quads

-- how many quadlets the block at a place has behind its header
abbrev pub length_at : List ℕ → ℕ → ℕ
length_at quads at = slice_index quads at / 2 ^ 16

-- the CRC that its header keeps
abbrev pub crc_at : List ℕ → ℕ → ℕ
crc_at quads at = slice_index quads at % 2 ^ 16

-- the place behind the block
abbrev pub end_of : List ℕ → ℕ → ℕ
end_of quads at = at + 1 + length_at quads at

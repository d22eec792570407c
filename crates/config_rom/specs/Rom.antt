-- A configuration ROM by its parts, and its quadlets and bytes.
use Rattle.std.specs.Prelude.{◌≡◌, ℕ, ◌+◌, ◌*◌, ◌/◌, ◌^◌, ◌<◌, ◌≤◌, List, [], ◌∷◌, ◌++◌, length, slice_index, All}
use Rattle.quad_lanes.specs.Pairs.{bytes_of}

pub record Parts : Type 0 where
  -- the number of quadlets of the bus information block, as quadlet 0 tells it
  pub info_len : ℕ
  -- over how many quadlets behind quadlet 0 the CRC in quadlet 0 is
  pub crc_length : ℕ
  -- the CRC that quadlet 0 keeps
  pub crc : ℕ
  -- the quadlets of the bus information block
  pub info : List ℕ
  -- the CRC that the root directory keeps
  pub root_crc : ℕ
  -- the entries of the root directory
  pub entries : List ℕ
  -- every later quadlet
  pub rest : List ℕ

abbrev pub first_quad : Parts → ℕ
first_quad v = 2 ^ 24 * v.info_len + 2 ^ 16 * v.crc_length + v.crc

-- the header of the root directory
abbrev pub root_header : Parts → ℕ
root_header v = 2 ^ 16 * length v.entries + v.root_crc

abbrev pub rom_quads : Parts → List ℕ
rom_quads v = first_quad v ∷ (v.info ++ (root_header v ∷ (v.entries ++ v.rest)))

-- a quadlet with another CRC in its low sixteen bits
abbrev pub with_crc : ℕ → ℕ → ℕ
with_crc quad crc = quad / 2 ^ 16 * 2 ^ 16 + crc

-- a ROM of these parts, whose CRCs are still 0
abbrev pub unsealed : List ℕ → ℕ → List ℕ → List ℕ → Parts
unsealed info crc_length entries rest = record {
  info_len = length info;
  crc_length = crc_length;
  crc = 0;
  info = info;
  root_crc = 0;
  entries = entries;
  rest = rest;
}

abbrev pub rom_bytes : Parts → List ℕ
rom_bytes v = bytes_of (rom_quads v)

-- What every ROM keeps: its bus information block and its root directory are whole, the block has
-- at least two quadlets and begins with the name of the bus, "1394", and there are at most 256
-- quadlets.
pub record IsRom (v : Parts) : Type 0 where
  pub info_is : length v.info ≡ v.info_len
  pub info_two : 2 ≤ v.info_len
  pub name : slice_index v.info 0 ≡ 0x31333934
  pub few : length (rom_quads v) ≤ 256
  -- each number fits its bits
  pub info_len_fits : v.info_len < 2 ^ 8
  pub crc_length_fits : v.crc_length < 2 ^ 8
  pub crc_fits : v.crc < 2 ^ 16
  pub root_crc_fits : v.root_crc < 2 ^ 16
  pub quads_fit : All (λ quad. quad < 2 ^ 32) (rom_quads v)

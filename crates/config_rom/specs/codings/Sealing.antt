-- How far the CRCs of a ROM's blocks are set: the places from the last one down. No public contract
-- cites this file.
use Rattle.std.specs.Prelude.{◌≡◌, ℕ, ◌+◌, ◌/◌, ◌^◌, ◌<◌, ◌≤◌, ◌⊎◌, true, List, length, slice_index, slice_set, take, drop}
use Rattle.topology_map.specs.Crc.{IsCrc}
use Rattle.config_rom.specs.declared.block.BlockKind.{BlockKind}
use Rattle.config_rom.specs.declared.marks.Marks.{Marks}
use Rattle.config_rom.specs.Layout.{length_at}
use Rattle.config_rom.specs.Rom.{with_crc}
use Rattle.config_rom.specs.Seal.{IsGood}
use Rattle.config_rom.specs.codings.Marks.{has_mark}

-- the header at a place was given the CRC of its block
pub record SealsAt (old new : List ℕ) (at : ℕ) : Type 0 where
  pub crc : ℕ
  pub is : IsCrc (take (length_at old at) (drop (at + 1) old)) crc
  pub set : new ≡ slice_set old at (with_crc (slice_index old at) crc)

-- a place isn't marked
abbrev pub IsBare : Marks → ℕ → Type 0
IsBare m at = (k : BlockKind) → has_mark m k at ≡ true → ⊥

-- the marked places were taken, from the last one down to this
pub record SealedFrom (old new : List ℕ) (m : Marks) (at : ℕ) : Type 0 where
  pub size : length new ≡ length old
  pub high : (p : ℕ) → slice_index new p / 2 ^ 16 ≡ slice_index old p / 2 ^ 16
  pub others : (p : ℕ) → (p < at) ⊎ IsBare m p → slice_index new p ≡ slice_index old p
  pub good :
      (p : ℕ) (k : BlockKind) → at ≤ p → p < length old → has_mark m k p ≡ true → IsGood new p

-- A ROM with good CRCs.
use Rattle.std.specs.Prelude.{◌≡◌, ℕ, ◌+◌, ◌/◌, ◌^◌, ◌<◌, List, length, slice_index, take, drop}
use Rattle.topology_map.specs.Crc.{IsCrc}
use Rattle.config_rom.specs.declared.block.Block.{Block}
use Rattle.config_rom.specs.declared.block.BlockKind.{BlockKind}
use Rattle.config_rom.specs.declared.block.BlockKind.TheVariants.{Directory}
use Rattle.config_rom.specs.Layout.{length_at, crc_at}
use Rattle.config_rom.specs.Rom.{Parts, rom_quads}
use Rattle.config_rom.specs.Block.{IsEntryOf, IsReachable, AreBlocks}

pub record Seals (old new : Parts) : Type 0 where
  -- the root directory keeps the CRC over its entries
  pub root : IsCrc new.entries new.root_crc
  -- quadlet 0 keeps the CRC over the first crc_length quadlets behind it
  pub first : IsCrc (take new.crc_length (drop 1 (rom_quads new))) new.crc
  -- and nothing else is changed
  pub others : new ≡ record old { crc = new.crc; root_crc = new.root_crc }

-- ---- of every block

-- the header at a place keeps the CRC over the quadlets of its block
abbrev pub IsGood : List ℕ → ℕ → Type 0
IsGood quads at = IsCrc (take (length_at quads at) (drop (at + 1) quads)) (crc_at quads at)

-- the root directory leads to this block
abbrev pub HasBlock : Parts → BlockKind → ℕ → Type 0
HasBlock v kind at = IsReachable (rom_quads v) (1 + v.info_len) kind at

pub record SealsBlocks (old new : Parts) : Type 0 where
  -- each block's header keeps the CRC over the quadlets of the block
  pub blocks : (kind : BlockKind) (at : ℕ) → HasBlock old kind at → IsGood (rom_quads new) at
  -- quadlet 0 keeps the CRC over the first crc_length quadlets behind it
  pub first : IsCrc (take new.crc_length (drop 1 (rom_quads new))) new.crc
  -- nothing else is changed: in quadlet 0 and in the headers of blocks all but the low sixteen bits
  -- stay, and every other quadlet stays
  pub info_len : new.info_len ≡ old.info_len
  pub crc_length : new.crc_length ≡ old.crc_length
  pub size : length (rom_quads new) ≡ length (rom_quads old)
  pub high :
      (at : ℕ) → slice_index (rom_quads new) at / 2 ^ 16 ≡ slice_index (rom_quads old) at / 2 ^ 16
  pub others :
      (at : ℕ) → 0 < at → ((kind : BlockKind) → HasBlock old kind at → ⊥) →
      slice_index (rom_quads new) at ≡ slice_index (rom_quads old) at

-- no header of a block stands where a directory has an entry
abbrev pub HeadersAreNoEntries : Parts → Type 0
HeadersAreNoEntries v =
    (directory entry : ℕ) (kind : BlockKind) → HasBlock v Directory directory →
    IsEntryOf (rom_quads v) directory entry → HasBlock v kind entry →
    ⊥

-- where that is so, each block of the sealed ROM is good
abbrev pub SealedBlocksAreGood : Type 0
SealedBlocksAreGood =
    (old new : Parts) (list : List Block) → AreBlocks old list → SealsBlocks old new →
    HeadersAreNoEntries old → (kind : BlockKind) (at : ℕ) → HasBlock new kind at →
    IsGood (rom_quads new) at

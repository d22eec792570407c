-- Each input has one reading: it is refused, or it is one ROM whose blocks have a first fault or
-- are one list.
use Rattle.std.specs.Prelude.{◌≡◌, ◌⊎◌, ℕ, ◌+◌, ◌<◌, All, List, Some}
use Rattle.config_rom.specs.declared.fault.RomFault.{RomFault}
use Rattle.config_rom.specs.declared.block.Block.{Block}
use Rattle.config_rom.specs.declared.block.BlockKind.{BlockKind}
use Rattle.config_rom.specs.Rom.{Parts, IsRom, rom_quads, rom_bytes}
use Rattle.config_rom.specs.Fault.{rom_fault}
use Rattle.config_rom.specs.Text.{IsRomText}
use Rattle.config_rom.specs.Block.{IsReachable, HasFault, AreBlocks, BlocksRefused}

-- the bytes are those of this ROM
pub record IsRomOf (bytes : List ℕ) (v : Parts) : Type 0 where
  pub rom : IsRom v
  pub bytes_are : rom_bytes v ≡ bytes

-- no block of the ROM has a fault
abbrev pub HasGoodBlocks : Parts → Type 0
HasGoodBlocks v =
    (kind : BlockKind) (at : ℕ) → IsReachable (rom_quads v) (1 + v.info_len) kind at →
    (f : RomFault) → HasFault (rom_quads v) kind at f → ⊥

abbrev pub EachInputIsARomOrRefused : Type 0
EachInputIsARomOrRefused =
    (bytes : List ℕ) → All (λ b. b < 256) bytes →
    ((v : Parts) × IsRomOf bytes v) ⊎ ((f : RomFault) × (rom_fault bytes ≡ Some f))

abbrev pub NoInputIsTwoRoms : Type 0
NoInputIsTwoRoms = (bytes : List ℕ) (v w : Parts) → IsRomOf bytes v → IsRomOf bytes w → v ≡ w

abbrev pub NoRomIsRefused : Type 0
NoRomIsRefused =
    (bytes : List ℕ) (v : Parts) (f : RomFault) → IsRomOf bytes v → rom_fault bytes ≡ Some f → ⊥

abbrev pub EachRomHasGoodBlocksOrAFault : Type 0
EachRomHasGoodBlocksOrAFault = (v : Parts) → HasGoodBlocks v ⊎ ((f : RomFault) × BlocksRefused v f)

abbrev pub NoGoodBlocksAreRefused : Type 0
NoGoodBlocksAreRefused = (v : Parts) (f : RomFault) → HasGoodBlocks v → BlocksRefused v f → ⊥

abbrev pub NoBlocksHaveTwoFaults : Type 0
NoBlocksHaveTwoFaults = (v : Parts) (f g : RomFault) → BlocksRefused v f → BlocksRefused v g → f ≡ g

abbrev pub NoRomHasTwoLists : Type 0
NoRomHasTwoLists = (v : Parts) (xs ys : List Block) → AreBlocks v xs → AreBlocks v ys → xs ≡ ys

abbrev pub NoRomHasTwoTexts : Type 0
NoRomHasTwoTexts =
    (v : Parts) (xs ys : List Block) (a b : List ℕ) →
    AreBlocks v xs → AreBlocks v ys → IsRomText v xs a → IsRomText v ys b →
    a ≡ b

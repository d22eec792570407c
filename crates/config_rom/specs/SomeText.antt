-- Which lists of blocks and which texts there are.
use Rattle.std.specs.Prelude.{ℕ, List}
use Rattle.config_rom.specs.declared.block.Block.{Block}
use Rattle.config_rom.specs.Rom.{Parts}
use Rattle.config_rom.specs.Block.{AreBlocks}
use Rattle.config_rom.specs.Text.{IsRomText}
use Rattle.config_rom.specs.OneReading.{HasGoodBlocks}

-- the list of a ROM's blocks, and the ROM's text
pub record HasRomText (v : Parts) : Type 0 where
  pub list : List Block
  pub are : AreBlocks v list
  pub text : List ℕ
  pub is_text : IsRomText v list text

-- each ROM has both, where none of its blocks has a fault
abbrev pub RomsHaveTexts : Type 0
RomsHaveTexts = (v : Parts) → HasGoodBlocks v → HasRomText v

-- The text of a ROM: its bus information block, its blocks, and the entries of its directories.
use Rattle.std.specs.Prelude.{◌≡◌, ℕ, zero, suc, ◌+◌, Option, Some, None, List, [], ◌∷◌, ◌++◌, length, slice_index, codes, decimal}
use Rattle.topology_stack.specs.Hex.{hex}
use Rattle.config_rom.specs.declared.crc.CrcState.{CrcState}
use Rattle.config_rom.specs.declared.crc.CrcState.TheVariants.{Good, Bad, Past}
use Rattle.config_rom.specs.declared.block.Block.{Block}
use Rattle.config_rom.specs.declared.block.BlockKind.{BlockKind}
use Rattle.config_rom.specs.declared.block.BlockKind.TheVariants.{Directory, Leaf}
use Rattle.config_rom.specs.Rom.{Parts, rom_quads}
use Rattle.config_rom.specs.Crc.{IsInfoCrc}
use Rattle.config_rom.specs.Block.{type_of, key_of, value_of, kind_of}

-- `good`, `bad KEPT COMPUTED` or `past`
unfoldable pub bad_text : ℕ → ℕ → List ℕ
bad_text kept computed = codes "bad " ++ (hex 4 kept ++ (codes " " ++ hex 4 computed))

abbrev pub state_text : CrcState → List ℕ
state_text Good = codes "good"
state_text (Bad kept computed) = bad_text kept computed
state_text Past = codes "past"

-- a word and a number
unfoldable pub field : List ℕ → ℕ → List ℕ
field word n = word ++ decimal n

-- `rom quadlets N info L crc_length C crc STATE`
unfoldable pub first_line : ℕ → ℕ → ℕ → CrcState → List ℕ
first_line quads info_len crc_length state =
    field (codes "rom quadlets ") quads
    ++ (field (codes " info ") info_len
    ++ (field (codes " crc_length ") crc_length
    ++ (codes " crc " ++ (state_text state ++ codes "\n"))))

-- `info HHHHHHHH`
unfoldable pub info_line : ℕ → List ℕ
info_line quad = codes "info " ++ (hex 8 quad ++ codes "\n")

abbrev pub info_lines : List ℕ → List ℕ
info_lines [] = []
info_lines (quad ∷ quads) = info_line quad ++ info_lines quads

abbrev pub type_text : ℕ → List ℕ
type_text zero = codes "immediate"
type_text (suc zero) = codes "offset"
type_text (suc (suc zero)) = codes "leaf"
type_text (suc (suc (suc n))) = codes "directory"

-- ` to P`, behind an entry that leads to a block
abbrev pub target_text : Option BlockKind → ℕ → List ℕ
target_text None target = []
target_text (Some kind) target = codes " to " ++ decimal target

-- `entry TYPE KK VVVVVV`
unfoldable pub entry_line : List ℕ → ℕ → List ℕ
entry_line quads at =
    codes "entry "
    ++ (type_text (type_of (slice_index quads at))
    ++ (codes " "
    ++ (hex 2 (key_of (slice_index quads at))
    ++ (codes " "
    ++ (hex 6 (value_of (slice_index quads at))
    ++ (target_text (kind_of (slice_index quads at)) (at + value_of (slice_index quads at))
    ++ codes "\n"))))))

-- the entries at so many places up to one
abbrev pub entry_lines : List ℕ → ℕ → ℕ → List ℕ
entry_lines quads at zero = []
entry_lines quads at (suc count) = entry_lines quads at count ++ entry_line quads (at + 1 + count)

abbrev pub kind_text : BlockKind → List ℕ
kind_text Directory = codes "directory "
kind_text Leaf = codes "leaf "

-- `directory P length N crc STATE` or `leaf P length N crc STATE`
unfoldable pub block_line : Block → List ℕ
block_line block =
    field (kind_text block.kind) block.at
    ++ (field (codes " length ") block.len
    ++ (codes " crc " ++ (state_text block.crc ++ codes "\n")))

-- a directory's entries stand behind its line
abbrev pub inside_lines : List ℕ → BlockKind → ℕ → ℕ → List ℕ
inside_lines quads Directory at len = entry_lines quads at len
inside_lines quads Leaf at len = []

abbrev pub block_lines : List ℕ → List Block → List ℕ
block_lines quads [] = []
block_lines quads (block ∷ blocks) =
    block_line block
    ++ (inside_lines quads block.kind block.at block.len ++ block_lines quads blocks)

-- `blocks B`
unfoldable pub last_line : ℕ → List ℕ
last_line count = field (codes "blocks ") count ++ codes "\n"

abbrev pub text_of : Parts → CrcState → List Block → List ℕ
text_of v state blocks =
    first_line (length (rom_quads v)) v.info_len v.crc_length state
    ++ (info_lines v.info ++ (block_lines (rom_quads v) blocks ++ last_line (length blocks)))

-- the text of a ROM with these blocks
pub record IsRomText (v : Parts) (blocks : List Block) (text : List ℕ) : Type 0 where
  pub state : CrcState
  pub state_is : IsInfoCrc v state
  pub text_is : text ≡ text_of v state blocks

-- The blocks of a ROM that its root directory leads to (IEEE Std 1212).
use Rattle.std.specs.Prelude.{◌≡◌, ℕ, zero, suc, ◌+◌, ◌/◌, ◌%◌, ◌^◌, ◌<◌, ◌≤◌, ◌==◌, ◌↔◌, Bool, true, if◌then◌else◌, Option, Some, None, List, [], ◌∷◌, ◌++◌, length, slice_index, map, take, drop, All}
use Rattle.config_rom.specs.declared.fault.RomFault.{RomFault}
use Rattle.config_rom.specs.declared.fault.RomFault.TheVariants.{Outside, SelfTarget}
use Rattle.config_rom.specs.declared.block.Block.{Block}
use Rattle.config_rom.specs.declared.block.BlockKind.{BlockKind}
use Rattle.config_rom.specs.declared.block.BlockKind.TheVariants.{Directory, Leaf}
use Rattle.config_rom.specs.Layout.{length_at, crc_at, end_of}
use Rattle.config_rom.specs.Rom.{Parts, rom_quads}
use Rattle.config_rom.specs.Crc.{IsCrcState}

-- ---- entries: key type (2 bits), key ID (6 bits), value (24 bits)

abbrev pub type_of : ℕ → ℕ
type_of quad = quad / 2 ^ 30

abbrev pub key_of : ℕ → ℕ
key_of quad = quad / 2 ^ 24 % 2 ^ 6

abbrev pub value_of : ℕ → ℕ
value_of quad = quad % 2 ^ 24

-- the kind of block that an entry leads to; types 0 and 1 lead to none
abbrev pub kind_of : ℕ → Option BlockKind
kind_of quad =
    if type_of quad == 2 then Some Leaf
    else (if type_of quad == 3 then Some Directory else None)

-- the quadlet at a place is an entry of the directory at another
pub record IsEntryOf (quads : List ℕ) (directory entry : ℕ) : Type 0 where
  pub behind : directory < entry
  pub inside : entry < end_of quads directory

-- an entry of a directory leads to a block of this kind: as many quadlets behind the entry as its
-- value says
pub record LeadsTo (quads : List ℕ) (directory entry : ℕ) (kind : BlockKind) (target : ℕ)
    : Type 0 where
  pub is_entry : IsEntryOf quads directory entry
  pub kind_is : kind_of (slice_index quads entry) ≡ Some kind
  pub target_is : target ≡ entry + value_of (slice_index quads entry)

-- ---- the reached blocks

-- the least set that holds the root directory and, with each directory, the targets of its entries

-- a set of blocks, by kind and place
abbrev pub Blocks : Type 0
Blocks = BlockKind → ℕ → Bool

pub record IsClosed (quads : List ℕ) (root : ℕ) (set : Blocks) : Type 0 where
  pub root_in : set Directory root ≡ true
  pub targets_in :
      (directory entry target : ℕ) (kind : BlockKind) →
      set Directory directory ≡ true → LeadsTo quads directory entry kind target →
      set kind target ≡ true

abbrev pub IsReachable : List ℕ → ℕ → BlockKind → ℕ → Type 0
IsReachable quads root kind at =
    (set : Blocks) → IsClosed quads root set →
    set kind at ≡ true

-- ---- faults

-- an entry of a directory leads to itself
pub record IsSelfTarget (quads : List ℕ) (directory entry : ℕ) : Type 0 where
  pub kind : BlockKind
  pub leads : LeadsTo quads directory entry kind entry

-- the fault of a block: it passes the end, or else an entry of it is the first to lead to itself
abbrev pub HasFault : List ℕ → BlockKind → ℕ → RomFault → Type 0
HasFault quads kind at (Outside p) = (p ≡ at) × (length quads < end_of quads at)
HasFault quads Directory at (SelfTarget p) =
    (end_of quads at ≤ length quads) × IsSelfTarget quads at p
    × ((entry : ℕ) → entry < p → IsSelfTarget quads at entry → ⊥)
HasFault quads kind at fault = ⊥

-- the fault of a reached block, where those at lesser places have none
pub record IsFirstFault (quads : List ℕ) (root : ℕ) (fault : RomFault) : Type 0 where
  pub kind : BlockKind
  pub at : ℕ
  pub reached : IsReachable quads root kind at
  pub has : HasFault quads kind at fault
  pub earlier :
      (other : BlockKind) (p : ℕ) → IsReachable quads root other p → p < at →
      (f : RomFault) → HasFault quads other p f → ⊥

-- ---- the list of the blocks

abbrev pub if_in : Blocks → BlockKind → ℕ → List (BlockKind × ℕ)
if_in set kind at = if set kind at then (kind, at) ∷ [] else []

-- the blocks of a set below a place by rising place, a directory before a leaf
abbrev pub in_order : Blocks → ℕ → List (BlockKind × ℕ)
in_order set zero = []
in_order set (suc at) = in_order set at ++ (if_in set Directory at ++ if_in set Leaf at)

-- the kind and the place of a block of the list
abbrev pub place_of : Block → BlockKind × ℕ
place_of block = (block.kind, block.at)

-- a block of the list tells the length in its header, and what is known of the CRC there
pub record IsBlockOf (quads : List ℕ) (block : Block) : Type 0 where
  pub len_is : block.len ≡ length_at quads block.at
  pub crc_is :
      IsCrcState (take block.len (drop (block.at + 1) quads)) (crc_at quads block.at) block.crc

-- the reached blocks, each once and in order, none of which has a fault
pub record AreBlocksOf (quads : List ℕ) (root : ℕ) (blocks : List Block) : Type 0 where
  pub set : Blocks
  pub set_is :
      (kind : BlockKind) (at : ℕ) → (set kind at ≡ true) ↔ IsReachable quads root kind at
  pub listed : map place_of blocks ≡ in_order set (length quads)
  pub told : All (IsBlockOf quads) blocks
  pub faultless :
      (kind : BlockKind) (at : ℕ) → IsReachable quads root kind at →
      (f : RomFault) → HasFault quads kind at f → ⊥

-- ---- of a ROM

abbrev pub AreBlocks : Parts → List Block → Type 0
AreBlocks v blocks = AreBlocksOf (rom_quads v) (1 + v.info_len) blocks

abbrev pub BlocksRefused : Parts → RomFault → Type 0
BlocksRefused v fault = IsFirstFault (rom_quads v) (1 + v.info_len) fault

-- Why bytes are no configuration ROM, one line a fault.
use Rattle.std.specs.Prelude.{◌≡◌, ◌≢◌, ◌⊎◌, ◌↔◌, ℕ, ◌/◌, ◌%◌, ◌<◌, ◌≤◌, Some, List, length, slice_index}
use Rattle.quad_lanes.specs.Pairs.{quads_of}
use Rattle.config_rom.specs.declared.fault.RomFault.{RomFault}
use Rattle.config_rom.specs.declared.fault.RomFault.TheVariants.{RomLength, RomTooLong, RomEmpty, NoInfo, Minimal, RomCut, BusName, Outside, SelfTarget}
use Rattle.config_rom.specs.Layout.{info_len_of, root_of, end_of}
use Rattle.config_rom.specs.Fault.{rom_fault}

-- the bytes are whole quadlets
abbrev pub AreWhole : List ℕ → Type 0
AreWhole bytes = length bytes % 4 ≡ 0

-- they are 1 to 256 of them
pub record AreSome (bytes : List ℕ) : Type 0 where
  pub whole : AreWhole bytes
  pub least : 1 ≤ length (quads_of bytes)
  pub most : length (quads_of bytes) ≤ 256

-- the first says that there is a bus information block, and this is whole
pub record HasInfo (bytes : List ℕ) : Type 0 where
  pub some : AreSome bytes
  pub two : 2 ≤ info_len_of (quads_of bytes)
  pub inside : root_of (quads_of bytes) ≤ length (quads_of bytes)

-- it begins with the name of this bus
abbrev pub HasName : List ℕ → Type 0
HasName bytes = slice_index (quads_of bytes) 1 ≡ 0x31333934

-- the bus information block, or the root directory behind it, passes the end
abbrev pub InfoIsCut : List ℕ → Type 0
InfoIsCut bytes =
    AreSome bytes × (2 ≤ info_len_of (quads_of bytes))
    × (length (quads_of bytes) < root_of (quads_of bytes))

abbrev pub RootIsCut : List ℕ → Type 0
RootIsCut bytes =
    HasInfo bytes × HasName bytes
    × (length (quads_of bytes) < end_of (quads_of bytes) (root_of (quads_of bytes)))

-- the first rule that the bytes break; of a block of a ROM no fault is found here
abbrev pub RomRefused : List ℕ → RomFault → Type 0
RomRefused bytes (RomLength at) = (length bytes % 4 ≢ 0) × (at ≡ length bytes / 4)
RomRefused bytes (RomTooLong at) = AreWhole bytes × (256 < length (quads_of bytes)) × (at ≡ 256)
RomRefused bytes (RomEmpty at) = (length bytes ≡ 0) × (at ≡ 0)
RomRefused bytes (NoInfo at) = AreSome bytes × (info_len_of (quads_of bytes) ≡ 0) × (at ≡ 0)
RomRefused bytes (Minimal at) = AreSome bytes × (info_len_of (quads_of bytes) ≡ 1) × (at ≡ 0)
RomRefused bytes (RomCut at) =
    (InfoIsCut bytes ⊎ RootIsCut bytes) × (at ≡ length (quads_of bytes))
RomRefused bytes (BusName at found) =
    HasInfo bytes × (found ≢ 0x31333934) × (found ≡ slice_index (quads_of bytes) 1) × (at ≡ 1)
RomRefused bytes (Outside at) = ⊥
RomRefused bytes (SelfTarget at) = ⊥

-- the bytes are refused for one fault at most, and it is the one that the call answers
abbrev pub RomsAreRefusedSo : Type 0
RomsAreRefusedSo =
    (bytes : List ℕ) (fault : RomFault) →
    RomRefused bytes fault ↔ (rom_fault bytes ≡ Some fault)

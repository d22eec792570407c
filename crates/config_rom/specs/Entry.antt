-- An entry of a directory by its fields.
use Rattle.std.specs.Prelude.{◌≡◌, ℕ, ◌+◌, Option, Some, None, List, slice_index}
use Rattle.config_rom.specs.declared.block.BlockKind.{BlockKind}
use Rattle.config_rom.specs.declared.entry.Entry.{Entry}
use Rattle.config_rom.specs.declared.entry.EntryType.{EntryType}
use Rattle.config_rom.specs.declared.entry.EntryType.TheVariants.{Immediate, Offset, Leaf, Directory}
use Rattle.config_rom.specs.Block.{type_of, key_of, value_of, kind_of}

-- the two bits of each type
abbrev pub type_number : EntryType → ℕ
type_number Immediate = 0
type_number Offset = 1
type_number Leaf = 2
type_number Directory = 3

-- the place that an entry of this value leads to, if it leads to a block
abbrev pub place_led_to : Option BlockKind → ℕ → ℕ → Option ℕ
place_led_to None at value = None
place_led_to (Some kind) at value = Some (at + value)

-- the fields of the quadlet at a place, where this is an entry
pub record IsEntry (quads : List ℕ) (at : ℕ) (entry : Entry) : Type 0 where
  pub type_is : type_number entry.entry_type ≡ type_of (slice_index quads at)
  pub key_is : entry.key ≡ key_of (slice_index quads at)
  pub value_is : entry.value ≡ value_of (slice_index quads at)
  pub target_is :
      entry.target
      ≡ place_led_to (kind_of (slice_index quads at)) at (value_of (slice_index quads at))

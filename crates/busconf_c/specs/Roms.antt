-- The records of a configuration ROM.
-- Statuses: 1 refused, 2 no memory.
use Rattle.std.specs.Prelude.{◌≡◌, ℕ, Some, List, map}
use Rattle.config_rom.specs.declared.block.Block.{Block}
use Rattle.config_rom.specs.declared.block.BlockKind.{BlockKind}
use Rattle.config_rom.specs.declared.block.BlockKind.TheVariants.{Directory, Leaf}
use Rattle.config_rom.specs.declared.crc.CrcState.{CrcState}
use Rattle.config_rom.specs.declared.crc.CrcState.TheVariants.{Good, Bad, Past}
use Rattle.config_rom.specs.declared.fault.RomFault.{RomFault}
use Rattle.config_rom.specs.declared.refusal.RomRefusal.{RomRefusal}
use Rattle.config_rom.specs.Rom.{Parts, IsRom, rom_bytes}
use Rattle.config_rom.specs.Block.{AreBlocks, BlocksRefused}
use Rattle.config_rom.specs.Fault.{rom_fault}
use Rattle.config_rom.specs.Line.{rom_refusal}
use Rattle.busconf_c.specs.declared.records.BlockRecord.{BlockRecord}
use Rattle.busconf_c.specs.declared.records.RomFaultRecord.{RomFaultRecord}
use Rattle.c_border.specs.Places.{IsCopied}

-- what is said of a ROM's fault as a record, and what a record says
abbrev pub record_of : RomRefusal → RomFaultRecord
record_of r = record { at = r.at; found = r.found; kind = r.number }

abbrev pub refusal_in : RomFaultRecord → RomRefusal
refusal_in r = record { at = r.at; found = r.found; number = r.kind }

abbrev pub rom_record : RomFault → RomFaultRecord
rom_record f = record_of (rom_refusal f)

abbrev pub kind_number : BlockKind → ℕ
kind_number Directory = 1
kind_number Leaf = 2

abbrev pub block_with : Block → ℕ → ℕ → ℕ → BlockRecord
block_with b crc kept computed = record {
  at = b.at;
  length = b.len;
  kept = kept;
  computed = computed;
  kind = kind_number b.kind;
  crc = crc;
}

abbrev pub block_of : Block → CrcState → BlockRecord
block_of b Good = block_with b 1 0 0
block_of b (Bad kept computed) = block_with b 2 kept computed
block_of b Past = block_with b 3 0 0

abbrev pub block_record : Block → BlockRecord
block_record b = block_of b b.crc

-- what is told of a ROM: its blocks, their first fault, or want of memory
pub data TellsBlocks (rom : Parts) (before after : List BlockRecord) (needed_before needed : ℕ)
    (fault_before fault : RomFaultRecord) (status : ℕ) : Type 0 where
  told : (blocks : List Block) → AreBlocks rom blocks →
      IsCopied (map block_record blocks) before after needed status → fault ≡ fault_before →
      TellsBlocks rom before after needed_before needed fault_before fault status
  no_blocks : (f : RomFault) → BlocksRefused rom f → fault ≡ rom_record f → after ≡ before →
      needed ≡ needed_before → status ≡ 1 →
      TellsBlocks rom before after needed_before needed fault_before fault status
  no_room : after ≡ before → needed ≡ needed_before → fault ≡ fault_before → status ≡ 2 →
      TellsBlocks rom before after needed_before needed fault_before fault status

-- what is told of bytes: what is told of their ROM, their first fault, or want of memory
pub data TellsRom (bytes : List ℕ) (before after : List BlockRecord) (needed_before needed : ℕ)
    (fault_before fault : RomFaultRecord) (status : ℕ) : Type 0 where
  rom_told : (rom : Parts) → IsRom rom → rom_bytes rom ≡ bytes →
      TellsBlocks rom before after needed_before needed fault_before fault status →
      TellsRom bytes before after needed_before needed fault_before fault status
  no_rom : (f : RomFault) → rom_fault bytes ≡ Some f → fault ≡ rom_record f → after ≡ before →
      needed ≡ needed_before → status ≡ 1 →
      TellsRom bytes before after needed_before needed fault_before fault status
  no_memory : after ≡ before → needed ≡ needed_before → fault ≡ fault_before →
      status ≡ 2 →
      TellsRom bytes before after needed_before needed fault_before fault status

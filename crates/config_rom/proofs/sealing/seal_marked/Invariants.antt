use Rattle.std.proofs.Common.{◌≡◌, ◌≤◌}
use Rattle.config_rom.specs.Rom.{rom_quads}
use Rattle.config_rom.specs.codings.Sealing.{SealedFrom}
use Rattle.config_rom.proofs.sealing.seal_marked.Given as goal

abbrev pub invariant-loop-at : goal.invariant-loop-at
invariant-loop-at l = record {
  sealed : SealedFrom (rom_quads l.fn.rom) (rom_quads l.rom) l.marks l.at;
  info_len : l.rom.info_len ≡ l.fn.rom.info_len;
  crc_length : l.rom.crc_length ≡ l.fn.rom.crc_length;
  most : l.at ≤ l.count;
  least : l.root ≤ l.at;
}

abbrev pub decreases-loop-at : goal.decreases-loop-at
decreases-loop-at l = l.at

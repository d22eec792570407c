use Rattle.std.proofs.Common.{◌+◌, inl, inr}
use Rattle.config_rom.specs.Rom.{rom_quads}
use Rattle.config_rom.specs.OneReading.{EachRomHasGoodBlocksOrAFault}
use Rattle.config_rom.proofs.Listed.{one_first, one_list, no_first}
use Rattle.config_rom.proofs.OneText.{one_text}
use Rattle.config_rom.proofs.SomeFault.{first_or_none}
use Rattle.config_rom.proofs.laws.one_list.Goals as goal

some_blocks : EachRomHasGoodBlocksOrAFault
some_blocks v = elim (first_or_none (rom_quads v) (1 + v.info_len)) [
  | inl found ↦ inr found
  | inr none ↦ inl none
]

pub returns : goal.returns
returns c = record {
  some = some_blocks;
  apart = λ v f good refused. no_first (rom_quads v) (1 + v.info_len) f good refused;
  fault = λ v f g a b. one_first (rom_quads v) (1 + v.info_len) f g a b;
  list = λ v xs ys a b. one_list (rom_quads v) (1 + v.info_len) xs ys a b;
  text = one_text;
}

use Rattle.config_rom.proofs.Reading.{some_rom, one_rom, rom_apart}
use Rattle.config_rom.proofs.laws.one_rom.Goals as goal

pub returns : goal.returns
returns c = record { some = some_rom; rom = one_rom; apart = rom_apart }

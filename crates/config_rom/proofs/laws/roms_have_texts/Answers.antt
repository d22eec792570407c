use Rattle.config_rom.proofs.SomeText.{some_text}
use Rattle.config_rom.proofs.laws.roms_have_texts.Goals as goal

pub returns : goal.returns
returns c = some_text

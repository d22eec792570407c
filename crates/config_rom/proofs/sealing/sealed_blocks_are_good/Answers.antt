use Rattle.config_rom.proofs.Sealed.{sealed_are_good}
use Rattle.config_rom.proofs.sealing.sealed_blocks_are_good.Goals as goal

pub returns : goal.returns
returns c = sealed_are_good

use Rattle.config_rom.proofs.Whole.{set-quads}
use Rattle.config_rom.proofs.rom.Rom.set_quad.Goals as goal

pub returns : goal.returns
returns c =
    set-quads c.args.self.now c.self.inside.quads.items c.args.place c.args.quad c.self.invariant c.self.view_is c.requires.behind_name c.requires.no_root c.ranges.quad.fits

use Rattle.std.proofs.Common.{ap, sym, ◌∙◌, subst}
use Rattle.config_rom.specs.Rom.{IsRom, rom_quads}
use Rattle.config_rom.proofs.Whole.{rom_quads-parts_of, is_rom}
use Rattle.config_rom.proofs.rom.Rom.quads.Goals as goal

pub returns-clause-value : goal.returns-clause-value
returns-clause-value c =
    c.as_slice.ensures.value ∙ sym (rom_quads-parts_of c.self.inside.quads.items c.self.invariant) ∙ ap rom_quads c.self.view_is

pub returns-clause-valid : goal.returns-clause-valid
returns-clause-valid c = subst IsRom c.self.view_is (is_rom c.self.inside.quads.items c.self.invariant)

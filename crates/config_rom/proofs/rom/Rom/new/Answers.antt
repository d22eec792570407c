use Rattle.std.proofs.Common.{◌≡◌, sym, subst, arith}
use Rattle.std.proofs.lemmas.Grind.{common_steps}
use Rattle.config_rom.specs.Rom.{IsRom, rom_quads, unsealed}
use Rattle.config_rom.specs.codings.Parts.{HasLayout}
use Rattle.config_rom.proofs.Whole.{has_layout, unsealed-rom}
use Rattle.config_rom.proofs.rom.Rom.new.Goals as goal
use Rattle.quad_lanes.proofs.Lemmas.{all_quadlets}

pub invariant_of-result : goal.invariant_of-result
invariant_of-result c =
    let v = unsealed c.args.info.now c.args.crc_length c.args.entries.now c.args.rest.now in
    let is : IsRom v = unsealed-rom c.args.info.now c.args.entries.now c.args.rest.now c.args.crc_length c.requires.two c.requires.name c.requires.few c.ranges.crc_length.fits
    (all_quadlets c.args.info.now (λ i. omega (arith, c.type_inv.info i))) (all_quadlets c.args.entries.now (λ i. omega (arith, c.type_inv.entries i))) (all_quadlets c.args.rest.now (λ i. omega (arith, c.type_inv.rest i))) in
    let same : c.extend_from_slice-3.new.self.items ≡ rom_quads v = grind (arith, common_steps) in
    subst HasLayout (sym same) (has_layout v is)

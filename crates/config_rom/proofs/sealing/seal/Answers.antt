use Rattle.std.proofs.Common.{◌≡◌, ◌+◌, ◌-◌, ◌∙◌, ℕ, List, take, drop, refl, ap, sym, subst, arith}
use Rattle.topology_map.specs.Crc.{IsCrc}
use Rattle.config_rom.specs.Rom.{Parts, rom_quads}
use Rattle.config_rom.specs.Seal.{Seals}
use Rattle.config_rom.proofs.Whole.{entries_part}
use Rattle.config_rom.proofs.sealing.seal.Goals as goal

pub returns : goal.returns
returns c =
    let old = c.args.rom.now in
    let root_crc = c.crc16-root_crc.result in
    let crc = c.crc16-crc.result in
    let middle : Parts = record old { root_crc = root_crc } in
    let root : 1 + c.from-root.result ≡ 1 + old.info_len = omega (arith, c.from-root.ensures, c.info_len.ensures) in
    let entries = entries_part old c.quads-quads.result.now (1 + c.from-root.result) c.end_of.result c.quads-quads.ensures.valid c.quads-quads.ensures.value root c.end_of.ensures.value in
    let set : c.set_root_crc.new.self ≡ middle = c.set_root_crc.ensures in
    let over : 1 + c.from-over.result - 1 ≡ old.crc_length = omega (arith, c.from-over.ensures, c.crc_length.ensures, ap (λ (v : Parts). v.crc_length) set) in
    let quads : c.quads.result.now ≡ rom_quads middle = c.quads.ensures.value ∙ ap rom_quads set in
    let first : IsCrc (take old.crc_length (drop 1 (rom_quads middle))) crc =
    subst (λ (qs : List ℕ). IsCrc (take old.crc_length (drop 1 qs)) crc) quads (subst (λ (n : ℕ). IsCrc (take n (drop 1 c.quads.result.now)) crc) over c.crc16-crc.ensures.remainder)
    in
    let sealed : Seals old (record middle { crc = crc }) = record {
      root = subst (λ (l : List ℕ). IsCrc l root_crc) entries c.crc16-root_crc.ensures.remainder;
      first = first;
      others = refl;
    } in
    subst (λ (v : Parts). Seals old v) (sym (c.set_crc.ensures ∙ ap (λ (v : Parts). record v { crc = crc }) set)) sealed

use Rattle.std.proofs.Common.{◌≡◌, ◌<◌, length, refl, sym, ap, ◌∙◌, arith}
use Rattle.std.specs.Prelude.{slice_index, slice_set}
use Rattle.std.proofs.lemmas.Option.{slice_get_read, get_or_from_slice_get}
use Rattle.config_rom.specs.Rom.{rom_quads, with_crc}
use Rattle.config_rom.specs.codings.Parts.{parts_of}
use Rattle.config_rom.proofs.Whole.{crc-quads, rom_quads-parts_of}
use Rattle.config_rom.proofs.rom.Rom.set_crc_at.Goals as goal

pub returns-clause-quads : goal.returns-clause-quads
returns-clause-quads c =
    let quads = c.self.inside.quads.items in
    let same : quads ≡ rom_quads c.args.self.now = sym (rom_quads-parts_of quads c.self.invariant) ∙ ap rom_quads c.self.view_is in
    let there : c.args.at < length quads = omega (arith, c.requires.inside, ap length same) in
    let read : slice_index quads c.args.at ≡ c.index.result.now = get_or_from_slice_get quads c.args.at c.index.result.now 0 (slice_get_read quads (length quads) c.args.at c.index.result.now refl there c.index.ensures) in
    let value : c.with_crc.result ≡ with_crc (slice_index quads c.args.at) c.args.crc = c.with_crc.ensures ∙ ap (λ q. with_crc q c.args.crc) (sym read) in
    ap (λ q. rom_quads (parts_of (slice_set quads c.args.at q))) value
    ∙ crc-quads c.args.self.now quads c.args.at c.args.crc c.self.invariant c.self.view_is c.requires.behind c.requires.inside c.ranges.crc.fits

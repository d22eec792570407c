use Rattle.std.proofs.Common.{◌≡◌, Ok, sym, ap, ◌∙◌, subst, arith, None}
use Rattle.std.proofs.lemmas.Grind.{common_steps}
use Rattle.quad_lanes.specs.Pairs.{quads_of}
use Rattle.config_rom.specs.Fault.{rom_fault}
use Rattle.config_rom.specs.Rom.{rom_bytes}
use Rattle.config_rom.specs.codings.Parts.{parts_of, HasLayout}
use Rattle.quad_lanes.proofs.Lemmas.{all_bytes}
use Rattle.config_rom.proofs.Whole.{is_rom}
use Rattle.config_rom.proofs.Reading.{read_layout, read_bytes, read_only, rom_no_fault, some_none}
use Rattle.config_rom.proofs.rom.decode_rom.Goals as goal

pub returns-in-Some-clause-only : goal.returns-in-Some-clause-only
returns-in-Some-clause-only c = λ v is e. absurd (some_none (rom_fault c.args.bytes.now) c.in-Some.fault c.in-Some.ensures (rom_no_fault c.args.bytes.now v is e))

pub invariant_of-result : goal.invariant_of-result
invariant_of-result c =
    let fit = all_bytes c.args.bytes.now (λ i. omega (arith, c.type_inv.bytes i)) in
    let none : rom_fault c.args.bytes.now ≡ None = sym c.in_default.ensures in
    let same : c.in_ok-quads.quads.items ≡ quads_of c.args.bytes.now = grind (arith, common_steps) in
    subst HasLayout (sym same) (read_layout c.args.bytes.now fit none)

pub returns-clause-found : goal.returns-clause-found
returns-clause-found c =
    let fit = all_bytes c.args.bytes.now (λ i. omega (arith, c.type_inv.bytes i)) in
    let none : rom_fault c.args.bytes.now ≡ None = sym c.in_default.ensures in
    let same : c.in_ok-quads.quads.items ≡ quads_of c.args.bytes.now = grind (arith, common_steps) in
    ap (λ quads. rom_bytes (parts_of quads)) same ∙ read_bytes c.args.bytes.now fit none

pub returns-clause-valid : goal.returns-clause-valid
returns-clause-valid c =
    let fit = all_bytes c.args.bytes.now (λ i. omega (arith, c.type_inv.bytes i)) in
    let none : rom_fault c.args.bytes.now ≡ None = sym c.in_default.ensures in
    let same : c.in_ok-quads.quads.items ≡ quads_of c.args.bytes.now = grind (arith, common_steps) in
    is_rom c.in_ok-quads.quads.items (subst HasLayout (sym same) (read_layout c.args.bytes.now fit none))

pub returns-clause-only : goal.returns-clause-only
returns-clause-only c = λ v is e.
    let same : c.in_ok-quads.quads.items ≡ quads_of c.args.bytes.now = grind (arith, common_steps) in
    ap (λ x. Ok x) (ap parts_of same ∙ read_only c.args.bytes.now v is e)

use Rattle.std.proofs.Common.{◌≡◌, ◌+◌, ◌<◌, ◌≤◌, ℕ, true, Err, length, ap, subst, arith}
use Rattle.config_rom.specs.declared.fault.RomFault.{RomFault}
use Rattle.config_rom.specs.declared.block.BlockKind.{BlockKind}
use Rattle.config_rom.specs.Layout.{end_of}
use Rattle.config_rom.specs.Rom.{rom_quads}
use Rattle.config_rom.specs.Block.{IsReachable, HasFault, IsFirstFault, BlocksRefused}
use Rattle.config_rom.specs.codings.Marks.{has_mark}
use Rattle.config_rom.proofs.Listed.{one_first, whole_of, no_first, of_rom}
use Rattle.config_rom.proofs.Sealed.{seals_blocks, same_refusal, no_refusal, root_inside}
use Rattle.config_rom.proofs.sealing.seal_blocks.Goals as goal

pub returns-in-Err-clause-refused : goal.returns-in-Err-clause-refused
returns-in-Err-clause-refused c = λ fault.
    let rom = c.args.rom.now in
    let root : 1 + c.from-root.result ≡ 1 + rom.info_len = omega (arith, c.from-root.ensures, c.info_len.ensures) in
    let first = of_rom (λ qs r. IsFirstFault qs r c.in-Err.fault) c.quads-quads.result.now (rom_quads rom) (1 + c.from-root.result) (1 + rom.info_len) c.quads-quads.ensures.value root c.in-Err.ensures.err in
    (λ e. subst (BlocksRefused rom) (same_refusal c.in-Err.fault fault e) first, λ refused. ap (λ f. Err f) (one_first (rom_quads rom) (1 + rom.info_len) c.in-Err.fault fault first refused))

pub seal_marked-requires-clause-root : goal.seal_marked-requires-clause-root
seal_marked-requires-clause-root c = omega (arith, c.from-root.ensures, c.info_len.ensures)

pub seal_marked-requires-clause-inside : goal.seal_marked-requires-clause-inside
seal_marked-requires-clause-inside c =
    let root : 1 + c.from-root.result ≡ 1 + c.args.rom.now.info_len = omega (arith, c.from-root.ensures, c.info_len.ensures) in
    root_inside c.args.rom.now c.quads-quads.result.now (1 + c.from-root.result) c.quads-quads.ensures.valid c.quads-quads.ensures.value root

pub seal_marked-requires-clause-whole : goal.seal_marked-requires-clause-whole
seal_marked-requires-clause-whole c = λ k p lt has.
    let rom = c.args.rom.now in
    let root : 1 + c.from-root.result ≡ 1 + rom.info_len = omega (arith, c.from-root.ensures, c.info_len.ensures) in
    of_rom (λ qs r. end_of qs p ≤ length qs) c.quads-quads.result.now (rom_quads rom) (1 + c.from-root.result) (1 + rom.info_len) c.quads-quads.ensures.value root
    (whole_of c.quads-quads.result.now k p (λ f fault. c.in-Ok.ensures.faultless k p (c.in-Ok.ensures.only k p lt has) f fault))

pub returns-clause-sealed : goal.returns-clause-sealed
returns-clause-sealed c =
    let rom = c.args.rom.now in
    let m = c.in-Ok.marks in
    let root : 1 + c.from-root.result ≡ 1 + rom.info_len = omega (arith, c.from-root.ensures, c.info_len.ensures) in
    let said = of_rom (λ qs r. ((k : BlockKind) (p : ℕ) → IsReachable qs r k p → (p < 256) × (has_mark m k p ≡ true)) × ((k : BlockKind) (p : ℕ) → p < 256 → has_mark m k p ≡ true → IsReachable qs r k p) × ((k : BlockKind) (p : ℕ) → IsReachable qs r k p → (f : RomFault) → HasFault qs k p f → ⊥))
    c.quads-quads.result.now (rom_quads rom) (1 + c.from-root.result) (1 + rom.info_len) c.quads-quads.ensures.value root
    (c.in-Ok.ensures.reached, c.in-Ok.ensures.only, c.in-Ok.ensures.faultless) in
    seals_blocks rom c.seal_marked.new.rom c.seal_first.new.rom m (1 + c.from-root.result) c.quads-quads.ensures.valid c.seal_first.ensures.valid root said.0 said.1
    (λ k p r. whole_of (rom_quads rom) k p (λ f fault. said.2 k p r f fault))
    c.seal_marked.ensures.sealed c.seal_marked.ensures.info_len c.seal_marked.ensures.crc_length c.seal_first.ensures.crc c.seal_first.ensures.others

pub returns-clause-refused : goal.returns-clause-refused
returns-clause-refused c = λ fault.
    let rom = c.args.rom.now in
    let root : 1 + c.from-root.result ≡ 1 + rom.info_len = omega (arith, c.from-root.ensures, c.info_len.ensures) in
    let faultless = of_rom (λ qs r. (k : BlockKind) (p : ℕ) → IsReachable qs r k p → (f : RomFault) → HasFault qs k p f → ⊥) c.quads-quads.result.now (rom_quads rom) (1 + c.from-root.result) (1 + rom.info_len) c.quads-quads.ensures.value root c.in-Ok.ensures.faultless in
    (λ e. absurd (no_refusal fault e), λ refused. absurd (no_first (rom_quads rom) (1 + rom.info_len) fault faultless refused))

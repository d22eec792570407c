use Rattle.std.proofs.Common.{◌≡◌, ◌+◌, sym, ap, arith, Ok, Err, length}
use Rattle.config_rom.specs.declared.fault.RomStop.TheVariants.{Fault}
use Rattle.config_rom.specs.Block.{AreBlocksOf, IsFirstFault}
use Rattle.config_rom.specs.Rom.{rom_quads}
use Rattle.config_rom.proofs.Listed.{one_first, one_list, whole_of, are_blocks, no_first, of_rom}
use Rattle.config_rom.proofs.block.blocks.Goals as goal

pub returns-in-Err-clause-only : goal.returns-in-Err-clause-only
returns-in-Err-clause-only c = λ list are.
    let root : 1 + c.from-root.result ≡ 1 + c.args.rom.now.info_len = omega (arith, c.from-root.ensures, c.info_len.ensures) in
    let first = of_rom (λ qs r. IsFirstFault qs r c.in-Err.fault) c.quads-quads.result.now (rom_quads c.args.rom.now) (1 + c.from-root.result) (1 + c.args.rom.now.info_len) c.quads-quads.ensures.value root c.in-Err.ensures.err in
    absurd (no_first (rom_quads c.args.rom.now) (1 + c.args.rom.now.info_len) c.in-Err.fault are.faultless first)

pub returns-in-Err-clause-exact : goal.returns-in-Err-clause-exact
returns-in-Err-clause-exact c = λ fault refused.
    let root : 1 + c.from-root.result ≡ 1 + c.args.rom.now.info_len = omega (arith, c.from-root.ensures, c.info_len.ensures) in
    let first = of_rom (λ qs r. IsFirstFault qs r c.in-Err.fault) c.quads-quads.result.now (rom_quads c.args.rom.now) (1 + c.from-root.result) (1 + c.args.rom.now.info_len) c.quads-quads.ensures.value root c.in-Err.ensures.err in
    ap (λ f. Err (Fault f)) (one_first (rom_quads c.args.rom.now) (1 + c.args.rom.now.info_len) c.in-Err.fault fault first refused)

pub list_of-requires-clause-whole : goal.list_of-requires-clause-whole
list_of-requires-clause-whole c = λ k p lt has.
    whole_of c.quads-quads.result.now k p (λ f fault. c.in-Ok.ensures.faultless k p (c.in-Ok.ensures.only k p lt has) f fault)

pub returns-clause-found : goal.returns-clause-found
returns-clause-found c =
    let root : 1 + c.from-root.result ≡ 1 + c.args.rom.now.info_len = omega (arith, c.from-root.ensures, c.info_len.ensures) in
    of_rom (λ qs r. AreBlocksOf qs r c.in_ok-list_of.field-0) c.quads-quads.result.now (rom_quads c.args.rom.now) (1 + c.from-root.result) (1 + c.args.rom.now.info_len) c.quads-quads.ensures.value root
    (are_blocks c.quads-quads.result.now (1 + c.from-root.result) c.in-Ok.marks c.in_ok-list_of.field-0 (omega (arith, ap length c.quads-quads.ensures.value, c.quads-quads.ensures.valid.few))
    c.in-Ok.ensures.reached c.in-Ok.ensures.only c.in-Ok.ensures.faultless c.in_ok-list_of.ensures.places c.in_ok-list_of.ensures.told)

pub returns-clause-only : goal.returns-clause-only
returns-clause-only c = λ list are.
    let root : 1 + c.from-root.result ≡ 1 + c.args.rom.now.info_len = omega (arith, c.from-root.ensures, c.info_len.ensures) in
    let mine = of_rom (λ qs r. AreBlocksOf qs r c.in_ok-list_of.field-0) c.quads-quads.result.now (rom_quads c.args.rom.now) (1 + c.from-root.result) (1 + c.args.rom.now.info_len) c.quads-quads.ensures.value root
    (are_blocks c.quads-quads.result.now (1 + c.from-root.result) c.in-Ok.marks c.in_ok-list_of.field-0 (omega (arith, ap length c.quads-quads.ensures.value, c.quads-quads.ensures.valid.few))
    c.in-Ok.ensures.reached c.in-Ok.ensures.only c.in-Ok.ensures.faultless c.in_ok-list_of.ensures.places c.in_ok-list_of.ensures.told)
    in
    ap (λ x. Ok x) (one_list (rom_quads c.args.rom.now) (1 + c.args.rom.now.info_len) c.in_ok-list_of.field-0 list mine are)

pub returns-clause-exact : goal.returns-clause-exact
returns-clause-exact c = λ fault refused.
    let root : 1 + c.from-root.result ≡ 1 + c.args.rom.now.info_len = omega (arith, c.from-root.ensures, c.info_len.ensures) in
    let first = of_rom (λ qs r. IsFirstFault qs r fault) (rom_quads c.args.rom.now) c.quads-quads.result.now (1 + c.args.rom.now.info_len) (1 + c.from-root.result) (sym c.quads-quads.ensures.value) (sym root) refused in
    absurd (no_first c.quads-quads.result.now (1 + c.from-root.result) fault c.in-Ok.ensures.faultless first)

pub returns-in_err-list_of-clause-exact : goal.returns-in_err-list_of-clause-exact
returns-in_err-list_of-clause-exact c = λ fault refused.
    let root : 1 + c.from-root.result ≡ 1 + c.args.rom.now.info_len = omega (arith, c.from-root.ensures, c.info_len.ensures) in
    let first = of_rom (λ qs r. IsFirstFault qs r fault) (rom_quads c.args.rom.now) c.quads-quads.result.now (1 + c.args.rom.now.info_len) (1 + c.from-root.result) (sym c.quads-quads.ensures.value) (sym root) refused in
    absurd (no_first c.quads-quads.result.now (1 + c.from-root.result) fault c.in-Ok.ensures.faultless first)

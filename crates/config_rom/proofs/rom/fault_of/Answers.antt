use Rattle.std.proofs.Common.{◌≡◌, ◌+◌, ◌/◌, ◌^◌, ◌<◌, ◌≤◌, length, refl, ap, sym, ◌∙◌, arith, Some, None}
use Rattle.std.specs.Prelude.{slice_index}
use Rattle.quad_lanes.specs.Pairs.{quads_of}
use Rattle.config_rom.specs.declared.fault.RomFault.TheVariants.{RomTooLong, NoInfo, Minimal, RomCut, BusName}
use Rattle.config_rom.specs.Layout.{end_of}
use Rattle.quad_lanes.proofs.Lemmas.{length-quads_of}
use Rattle.config_rom.proofs.Faults.{by_tests, tested, too_long, no_info, minimal, cut_info, other_bus, cut_root, no_fault}
use Rattle.config_rom.proofs.rom.fault_of.Goals as goal

pub returns-then-count-gt-MAX_QUADS : goal.returns-then-count-gt-MAX_QUADS
returns-then-count-gt-MAX_QUADS c =
    let bytes = c.args.bytes.now in
    let first = slice_index (quads_of bytes) 0 in
    let end = end_of (quads_of bytes) (1 + first / 2 ^ 24) in
    let name = slice_index (quads_of bytes) 1 in
    sym (by_tests bytes (length bytes / 4) (first / 2 ^ 24) end name (Some (RomTooLong 256)) (tested bytes first c.if-bytes-ne0.false refl) (too_long (length bytes / 4) (first / 2 ^ 24) end name c.if-count-gt-MAX_QUADS.true))

pub returns-then-root-eq1 : goal.returns-then-root-eq1
returns-then-root-eq1 c =
    let bytes = c.args.bytes.now in
    let first = c.quad_at.result in
    let end = end_of (quads_of bytes) (1 + first / 2 ^ 24) in
    let name = slice_index (quads_of bytes) 1 in
    sym (by_tests bytes (length bytes / 4) (first / 2 ^ 24) end name (Some (NoInfo 0)) (tested bytes first c.if-bytes-ne0.false c.quad_at.ensures) (no_info (length bytes / 4) (first / 2 ^ 24) end name c.if-count-gt-MAX_QUADS.false c.if-count-eq0.false (omega (arith, c.if-root-eq1.true))))

pub returns-then-root-eq2 : goal.returns-then-root-eq2
returns-then-root-eq2 c =
    let bytes = c.args.bytes.now in
    let first = c.quad_at.result in
    let end = end_of (quads_of bytes) (1 + first / 2 ^ 24) in
    let name = slice_index (quads_of bytes) 1 in
    sym (by_tests bytes (length bytes / 4) (first / 2 ^ 24) end name (Some (Minimal 0)) (tested bytes first c.if-bytes-ne0.false c.quad_at.ensures) (minimal (length bytes / 4) (first / 2 ^ 24) end name c.if-count-gt-MAX_QUADS.false c.if-count-eq0.false (omega (arith, c.if-root-eq2.true))))

pub returns-then-count-root : goal.returns-then-count-root
returns-then-count-root c =
    let bytes = c.args.bytes.now in
    let first = c.quad_at.result in
    let end = end_of (quads_of bytes) (1 + first / 2 ^ 24) in
    let name = slice_index (quads_of bytes) 1 in
    sym (by_tests bytes (length bytes / 4) (first / 2 ^ 24) end name (Some (RomCut (length bytes / 4))) (tested bytes first c.if-bytes-ne0.false c.quad_at.ensures) (cut_info (length bytes / 4) (first / 2 ^ 24) end name c.if-count-gt-MAX_QUADS.false c.if-count-eq0.false (omega (arith, c.if-root-eq1.false, c.if-root-eq2.false)) c.if-count-root.true))

pub returns-then-found-ne-BUS_NAME : goal.returns-then-found-ne-BUS_NAME
returns-then-found-ne-BUS_NAME c =
    let bytes = c.args.bytes.now in
    let first = c.quad_at.result in
    let end = end_of (quads_of bytes) (1 + first / 2 ^ 24) in
    let name = slice_index (quads_of bytes) 1 in
    let ne = c.if-found-ne-BUS_NAME.true in
    let other : name ≡ 0x31333934 → ⊥ = λ e. ne (c.quad_at-found.ensures ∙ e) in
    ap (λ n. Some (BusName 1 n)) c.quad_at-found.ensures
    ∙ sym (by_tests bytes (length bytes / 4) (first / 2 ^ 24) end name (Some (BusName 1 name)) (tested bytes first c.if-bytes-ne0.false c.quad_at.ensures) (other_bus (length bytes / 4) (first / 2 ^ 24) end name c.if-count-gt-MAX_QUADS.false (omega (arith, c.if-root-eq1.false, c.if-root-eq2.false)) c.if-count-root.false other))

pub returns-then-not-is_whole : goal.returns-then-not-is_whole
returns-then-not-is_whole c =
    let bytes = c.args.bytes.now in
    let first = c.quad_at.result in
    let end = end_of (quads_of bytes) (1 + first / 2 ^ 24) in
    let name = slice_index (quads_of bytes) 1 in
    let no : (end ≤ length (quads_of bytes)) → ⊥ = λ le. let t = c.is_whole.ensures.1 le in absurd cc in
    let past : length bytes / 4 < end = omega (arith, length-quads_of bytes, no) in
    sym (by_tests bytes (length bytes / 4) (first / 2 ^ 24) end name (Some (RomCut (length bytes / 4))) (tested bytes first c.if-bytes-ne0.false c.quad_at.ensures) (cut_root (length bytes / 4) (first / 2 ^ 24) end name c.if-count-gt-MAX_QUADS.false (omega (arith, c.if-root-eq1.false, c.if-root-eq2.false)) c.if-count-root.false (sym c.quad_at-found.ensures ∙ c.if-found-ne-BUS_NAME.false) past))

pub returns : goal.returns
returns c =
    let bytes = c.args.bytes.now in
    let first = c.quad_at.result in
    let end = end_of (quads_of bytes) (1 + first / 2 ^ 24) in
    let name = slice_index (quads_of bytes) 1 in
    let whole : end ≤ length bytes / 4 = omega (arith, length-quads_of bytes, c.is_whole.ensures.0 c.if-not-is_whole.false) in
    sym (by_tests bytes (length bytes / 4) (first / 2 ^ 24) end name None (tested bytes first c.if-bytes-ne0.false c.quad_at.ensures) (no_fault (length bytes / 4) (first / 2 ^ 24) end name c.if-count-gt-MAX_QUADS.false (omega (arith, c.if-root-eq1.false, c.if-root-eq2.false)) c.if-count-root.false (sym c.quad_at-found.ensures ∙ c.if-found-ne-BUS_NAME.false) whole))

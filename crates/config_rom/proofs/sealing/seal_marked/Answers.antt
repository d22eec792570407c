use Rattle.std.proofs.Common.{◌≡◌, ◌+◌, ◌-◌, ◌<◌, ℕ, true, sym, subst, ◌∙◌, length, arith}
use Rattle.config_rom.specs.declared.block.BlockKind.{BlockKind}
use Rattle.config_rom.specs.declared.block.BlockKind.TheVariants.{Directory, Leaf}
use Rattle.config_rom.specs.Rom.{rom_quads}
use Rattle.config_rom.specs.codings.Marks.{has_mark}
use Rattle.config_rom.specs.codings.Sealing.{SealedFrom}
use Rattle.config_rom.proofs.Sealed.{whole_still, sealed_more}
use Rattle.config_rom.proofs.sealing.seal_marked.Goals as goal
use Rattle.config_rom.proofs.sealing.seal_marked.Goals.{then-has-via-then-has, then-has-via-else-has+then-has-2}

pub seal_block-requires-clause-whole : goal.seal_block-requires-clause-whole
seal_block-requires-clause-whole c =
    let p = c.loop-at.at - 1 in
    let low : p < 256 = omega (arith, c.loop-at.invariant.most, c.requires.few, c.loop-at-test.true) in
    let mark : (k : BlockKind) × (has_mark c.args.marks.now k p ≡ true) = elim c.then-has.branch [
      | then-has-via-then-has w ↦ (Directory, sym c.has.ensures ∙ w.if-has.true)
      | then-has-via-else-has+then-has-2 w ↦ (Leaf, sym w.has-else-has.ensures ∙ w.if-has-2.true)
    ] in
    whole_still (rom_quads c.args.rom.now) (rom_quads c.loop-at.rom) c.args.marks.now c.loop-at.at p c.loop-at.invariant.sealed (c.requires.whole mark.0 p low mark.1)

pub loop-at-preserved-in-loop-at : goal.loop-at-preserved-in-loop-at
loop-at-preserved-in-loop-at c =
    let p = c.loop-at.at - 1 in
    let next : c.loop-at.at ≡ p + 1 = omega (arith, c.loop-at-test.true) in
    let there : p < length (rom_quads c.args.rom.now) = omega (arith, c.loop-at.invariant.most, c.requires.count, c.loop-at-test.true) in
    let mark : (k : BlockKind) × (has_mark c.args.marks.now k p ≡ true) = elim c.then-has.branch [
      | then-has-via-then-has w ↦ (Directory, sym c.has.ensures ∙ w.if-has.true)
      | then-has-via-else-has+then-has-2 w ↦ (Leaf, sym w.has-else-has.ensures ∙ w.if-has-2.true)
    ] in
    let before = subst (λ (n : ℕ). SealedFrom (rom_quads c.args.rom.now) (rom_quads c.loop-at.rom) c.args.marks.now n) next c.loop-at.invariant.sealed in
    record {
      sealed = sealed_more (rom_quads c.args.rom.now) (rom_quads c.loop-at.rom) (rom_quads c.seal_block.new.rom) c.args.marks.now p mark.0 before there mark.1 c.seal_block.ensures.sealed;
      info_len = c.seal_block.ensures.info_len ∙ c.loop-at.invariant.info_len;
      crc_length = c.seal_block.ensures.crc_length ∙ c.loop-at.invariant.crc_length;
      most = omega (arith, c.loop-at.invariant.most);
      least = omega (arith, c.loop-at-test.true);
    }

pub returns-clause-sealed : goal.returns-clause-sealed
returns-clause-sealed c =
    let done : c.loop-at.at ≡ c.args.root = omega (arith, c.loop-at-test.false, c.loop-at.invariant.least) in
    subst (λ (n : ℕ). SealedFrom (rom_quads c.args.rom.now) (rom_quads c.loop-at.rom) c.args.marks.now n) done c.loop-at.invariant.sealed

use Rattle.std.proofs.Common.{◌≡◌, ℕ, ◌+◌, ◌<◌, List, ◌++◌, length, map, take, drop, get_or, set, ap, ◌∙◌, arith}
use Rattle.config_rom.specs.declared.block.Block.{Block}
use Rattle.config_rom.specs.declared.block.BlockKind.TheVariants.{Directory}
use Rattle.config_rom.specs.declared.crc.CrcState.TheVariants.{Good}
use Rattle.busconf_c.specs.declared.records.BlockRecord.{BlockRecord}
use Rattle.busconf_c.specs.Roms.{block_record}
use Rattle.c_records.proofs.Lemmas.{put_next}
use Rattle.busconf_c.proofs.rom.tell_blocks.Goals as goal

next : (l : List Block) (place old : List BlockRecord) (i : ℕ) (d : Block) (r : BlockRecord) →
    r ≡ block_record (get_or l i d) → place ≡ map block_record (take i l) ++ drop i old →
    i < length l → i < length old →
    set place i r ≡ map block_record (take (i + 1) l) ++ drop (i + 1) old
next l place old i d r is so_far here room =
    ap (λ (x : BlockRecord). set place i x) is ∙ ap (λ (p : List BlockRecord). set p i (block_record (get_or l i d))) so_far ∙ put_next block_record l old i d here room

abbrev none : Block
none = record { kind = Directory; at = 0; len = 0; crc = Good }

pub loop-i-preserved : goal.loop-i-preserved
loop-i-preserved c = next c.args.list.now c.loop-i.place c.args.place.now c.loop-i.i none c.block_record.result c.block_record.ensures c.loop-i.invariant c.loop-i-test.true (omega arith)

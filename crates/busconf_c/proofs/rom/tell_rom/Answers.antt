use Rattle.std.proofs.Common.{refl, subst, map}
use Rattle.std.specs.Prelude.{List}
use Rattle.config_rom.specs.declared.block.Block.{Block}
use Rattle.c_border.specs.Places.{IsCopied}
use Rattle.busconf_c.specs.Roms.{block_record, told, no_blocks}
use Rattle.busconf_c.proofs.rom.tell_rom.Goals as goal

pub returns-in-Ok : goal.returns-in-Ok
returns-in-Ok c =
    told c.in-Ok.list c.in-Ok.ensures.found
    (subst (λ (l : List Block). IsCopied (map block_record l) c.args.place.now c.tell_blocks.new.place c.tell_blocks.new.needed c.tell_blocks.result) c.as_slice.ensures c.tell_blocks.ensures) refl

pub returns-in-Err-Fault : goal.returns-in-Err-Fault
returns-in-Err-Fault c = no_blocks c.in-Err-Fault.found (rw c.in-Err-Fault.field-0-is at c.in-Err-Fault.ensures.refused) c.rom_record.ensures refl refl refl

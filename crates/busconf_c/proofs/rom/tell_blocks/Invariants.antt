use Rattle.std.proofs.Common.{◌≡◌, ◌++◌, take, drop, map}
use Rattle.busconf_c.specs.Roms.{block_record}
use Rattle.busconf_c.proofs.rom.tell_blocks.Given as goal

abbrev pub invariant-loop-i : goal.invariant-loop-i
invariant-loop-i l = l.place ≡ map block_record (take l.i l.list) ++ drop l.i l.initial.place

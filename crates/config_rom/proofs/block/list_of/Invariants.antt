use Rattle.std.proofs.Common.{◌≡◌, map}
use Rattle.std.specs.List.{All}
use Rattle.config_rom.specs.Block.{IsBlockOf, place_of, in_order}
use Rattle.config_rom.specs.codings.Marks.{has_mark}
use Rattle.config_rom.proofs.block.list_of.Given as goal

abbrev pub invariant-loop-at : goal.invariant-loop-at
invariant-loop-at l = (map place_of l.list ≡ in_order (has_mark l.marks) l.at) × All (IsBlockOf l.quads) l.list

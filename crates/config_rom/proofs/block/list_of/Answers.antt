use Rattle.std.proofs.Common.{arith}
use Rattle.config_rom.specs.declared.block.BlockKind.TheVariants.{Directory, Leaf}
use Rattle.config_rom.proofs.block.list_of.Goals as goal

pub push_marked-requires-clause-whole : goal.push_marked-requires-clause-whole
push_marked-requires-clause-whole c = λ has. c.requires.whole Directory c.loop-at.at (omega (arith, c.loop-at-test.true, c.requires.few)) has

pub push_marked-requires-in-loop-at-clause-whole : goal.push_marked-requires-in-loop-at-clause-whole
push_marked-requires-in-loop-at-clause-whole c = λ has. c.requires.whole Leaf c.loop-at.at (omega (arith, c.loop-at-test.true, c.requires.few)) has

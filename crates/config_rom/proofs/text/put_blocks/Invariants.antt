use Rattle.std.proofs.Common.{◌≡◌, ◌++◌, drop}
use Rattle.config_rom.specs.Text.{block_lines}
use Rattle.config_rom.proofs.text.put_blocks.Given as goal

-- the lines so far, and then those of the blocks that are left, are the lines of all
abbrev pub invariant-loop-block : goal.invariant-loop-block
invariant-loop-block l = l.out.items ++ block_lines l.quads (drop l.block-index l.blocks) ≡ l.fn.out.items ++ block_lines l.quads l.blocks

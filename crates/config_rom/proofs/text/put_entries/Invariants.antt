use Rattle.std.proofs.Common.{◌≡◌, ◌++◌}
use Rattle.config_rom.specs.Text.{entry_lines}
use Rattle.config_rom.proofs.text.put_entries.Given as goal

abbrev pub invariant-loop-entry : goal.invariant-loop-entry
invariant-loop-entry l = l.out.items ≡ l.fn.out.items ++ entry_lines l.quads l.at l.entry

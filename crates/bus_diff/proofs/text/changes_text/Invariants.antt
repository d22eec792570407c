use Rattle.std.proofs.Common.{◌≡◌, ◌++◌, drop}
use Rattle.bus_diff.specs.Text.{changes_text}
use Rattle.bus_diff.proofs.text.changes_text.Given as goal

abbrev pub invariant-loop-change : goal.invariant-loop-change
invariant-loop-change l = l.out.items ++ changes_text (drop l.change-index l.changes) ≡ changes_text l.changes

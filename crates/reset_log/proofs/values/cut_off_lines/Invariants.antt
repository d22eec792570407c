use Rattle.std.proofs.Common.{◌≡◌, ◌++◌}
use Rattle.bus_json.specs.Lines.{AreJsonLines}
use Rattle.reset_log.specs.Json.{cut_off_lines}
use Rattle.reset_log.proofs.values.cut_off_lines.Given as goal

abbrev pub invariant-loop-pending : goal.invariant-loop-pending
invariant-loop-pending l =
    (l.text.items ++ cut_off_lines l.pending-iterator ≡ cut_off_lines l.fn.pending.entries)
    × AreJsonLines l.text.items

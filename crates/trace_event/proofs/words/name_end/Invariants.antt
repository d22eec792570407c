use Rattle.std.proofs.Common.{◌≡◌, ◌+◌, drop}
use Rattle.std.specs.List.{prefix_len}
use Rattle.trace_event.specs.codings.Follows.{is_inner}
use Rattle.trace_event.proofs.words.name_end.Given as goal

abbrev pub invariant-loop-next : goal.invariant-loop-next
invariant-loop-next l =
    l.next + prefix_len is_inner (drop l.next l.text) ≡ l.at + prefix_len is_inner (drop l.at l.text)

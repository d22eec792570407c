use Rattle.std.proofs.Common.{◌≡◌, ◌+◌, drop}
use Rattle.std.specs.List.{prefix_len}
use Rattle.std.specs.Char.{is_ascii_digit}
use Rattle.trace_event.proofs.words.digits_end.Given as goal

abbrev pub invariant-loop-next : goal.invariant-loop-next
invariant-loop-next l =
    l.next + prefix_len is_ascii_digit (drop l.next l.text) ≡ l.at + prefix_len is_ascii_digit (drop l.at l.text)

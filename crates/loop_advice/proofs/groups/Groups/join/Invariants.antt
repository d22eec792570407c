use Rattle.std.proofs.Common.{◌≡◌, ◌<◌, ◌≤◌, ℕ, get_or}
use Rattle.loop_advice.specs.codings.Groups.{merged}
use Rattle.loop_advice.proofs.groups.Groups.join.Given as goal

abbrev pub invariant-loop-number : goal.invariant-loop-number
invariant-loop-number l =
    ((k : ℕ) → k < l.number-index → get_or l.number-items k 0 ≡ merged l.from l.into (get_or l.initial.number-items k 0))
    × ((k : ℕ) → l.number-index ≤ k → get_or l.number-items k 0 ≡ get_or l.initial.number-items k 0)

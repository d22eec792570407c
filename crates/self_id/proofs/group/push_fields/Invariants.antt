use Rattle.std.proofs.Common.{◌≡◌, ◌+◌, ◌≤◌, ◌++◌, length}
use Rattle.self_id.specs.codings.Reading.{statuses}
use Rattle.self_id.proofs.group.push_fields.Given as goal

-- the fields still to be appended make the whole, and there is room for them
abbrev pub invariant-loop-below : goal.invariant-loop-below
invariant-loop-below l =
    (l.ports ++ statuses l.below l.fields ≡ l.initial.ports ++ statuses l.count l.fields)
    × (length l.ports + l.below ≤ length l.initial.ports + l.count)

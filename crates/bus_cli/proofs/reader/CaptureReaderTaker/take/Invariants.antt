use Rattle.std.proofs.Common.{ℕ, List, ◌++◌, ◌-◌, ◌≤◌, length, take}
use Rattle.bus_cli.specs.codings.Pieces.{HoldsBytes}
use Rattle.bus_cli.proofs.reader.CaptureReaderTaker.take.Given as goal

-- the bytes of the piece so far came behind those before
abbrev pub invariant-loop-at : goal.invariant-loop-at
invariant-loop-at l = (l.at ≤ length l.piece) × ((bytes : List ℕ) → HoldsBytes l.initial.self bytes → HoldsBytes l.self (bytes ++ take l.at l.piece))

abbrev pub decreases-loop-at : goal.decreases-loop-at
decreases-loop-at l = length l.piece - l.at

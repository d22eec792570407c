-- What a loop over a source has read so far.
use Rattle.std.proofs.Common.{ℕ, ◌≤◌, Option, List, length}
use Rattle.std.specs.Io.KnownBytes.{Consumes}
use Rattle.io_edges.specs.Told.{StayTold}

pub record Reads (first now : Option (List ℕ)) (log : List ℕ) (before after : ℕ) : Type 0 where
  pub came : Consumes first now log
  pub told : StayTold first now
  pub short : length log ≤ 1073741824
  pub later : before ≤ after

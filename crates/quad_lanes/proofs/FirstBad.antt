-- How far a search for the first bad pair has come.
use Rattle.std.proofs.Common.{◌≡◌, ℕ, ◌+◌, ◌*◌, List, length, arith}
use Rattle.std.specs.List.{position_from}
use Rattle.std.proofs.lemmas.Iterator.Adapters.{position_from-zero}
use Rattle.quad_lanes.specs.Pairs.{pairs, is_bad, first_bad_pair}

-- the search has come past this many good pairs, and these quadlets are left
pub record IsPast (quads : List ℕ) (pair : ℕ) (rest : List ℕ) : Type 0 where
  pub answer : first_bad_pair quads ≡ position_from is_bad pair (pairs rest)
  pub count : 2 * pair + length rest ≡ length quads

-- at the start it has come past none
pub past_start : (quads : List ℕ) → IsPast quads 0 quads
past_start quads = record { answer = position_from-zero is_bad (pairs quads); count = omega arith }

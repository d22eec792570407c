-- For which bytes a reader of captures stands. No public contract cites this file.
use Rattle.std.specs.Prelude.{◌≡◌, ℕ, ◌*◌, ◌^◌, ◌<◌, ◌≤◌, All, List, ◌++◌, length, Option, Some, None, if◌then◌else◌}
use Rattle.quad_lanes.specs.Pairs.{quads_of, firsts, first_bad_pair, is_bad}
use Rattle.bus_cli.specs.codings.Late.{Late, IsListOf}

-- what a reader of captures keeps: the bytes of a pair that isn't whole, how many pairs are whole,
-- the number of the first bad one, and the list of their first quadlets
pub record Pieces : Type 0 where
  pub rest : List ℕ
  pub pairs : ℕ
  pub first_bad : Option ℕ
  pub packets : Late

-- it has the bytes behind the last whole pair, and what is known of the pairs before
pub record HoldsExactly (r : Pieces) (bytes : List ℕ) : Type 0 where
  pub whole : List ℕ
  pub split : bytes ≡ whole ++ r.rest
  pub even : length whole ≡ 8 * r.pairs
  pub bad : r.first_bad ≡ first_bad_pair (quads_of whole)
  pub list : IsListOf r.packets (firsts (quads_of whole))
  pub fit : All (λ b. b < 256) bytes

-- so it is of all bytes that aren't absurdly many
abbrev pub HoldsBytes : Pieces → List ℕ → Type 0
HoldsBytes r bytes = length bytes ≤ 2 ^ 60 → HoldsExactly r bytes

-- the first bad pair, after one pair more with a number
abbrev pub bad_after : Option ℕ → ℕ × ℕ → ℕ → Option ℕ
bad_after None pair number = if is_bad pair then Some number else None
bad_after (Some first) pair number = Some first

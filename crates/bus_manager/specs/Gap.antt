-- The gap counts that suit the hops of a bus.
use Rattle.std.specs.Prelude.{ℕ, List, [], ◌∷◌, slice_get, unwrap_or}

-- for 0 hops, 1 hop, and so on up to 15
abbrev pub gaps : List ℕ
gaps = 63 ∷ 5 ∷ 7 ∷ 8 ∷ 10 ∷ 13 ∷ 16 ∷ 18 ∷ 21 ∷ 24 ∷ 26 ∷ 29 ∷ 32 ∷ 35 ∷ 37 ∷ 40 ∷ []

-- the greatest gap count for more
abbrev pub gap_of : ℕ → ℕ
gap_of hops = unwrap_or (slice_get gaps hops) 63

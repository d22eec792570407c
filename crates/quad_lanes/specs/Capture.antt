-- A capture: packets as bytes, the quadlet of each before its bitwise inverse.
use Rattle.std.specs.Prelude.{◌≡◌, ℕ, ◌*◌, ◌%◌, ◌^◌, ◌<◌, List, [], ◌∷◌, ◌++◌, length, All, None}
use Rattle.std.specs.Int.{w32, to_be_bytes}
use Rattle.quad_lanes.specs.Pairs.{first_bad_pair, firsts, inverse, quads_of}

-- the bytes of packets with these quadlets
abbrev pub capture : List ℕ → List ℕ
capture [] = []
capture (q ∷ quads) = to_be_bytes w32 q ++ (to_be_bytes w32 (inverse q) ++ capture quads)

-- ---- laws

-- whole pairs, of which none is bad, are the capture of their firsts
abbrev pub GoodPairsAreACapture : Type 0
GoodPairsAreACapture =
    (bytes : List ℕ) → All (λ b. b < 256) bytes → length bytes % 8 ≡ 0 →
    first_bad_pair (quads_of bytes) ≡ None → bytes ≡ capture (firsts (quads_of bytes))

-- a capture has 8 bytes a quadlet
abbrev pub CapturesAreWhole : Type 0
CapturesAreWhole = (quads : List ℕ) → length (capture quads) ≡ 8 * length quads

-- no pair of a capture is bad
abbrev pub CapturesAreGood : Type 0
CapturesAreGood =
    (quads : List ℕ) → All (λ q. q < 2 ^ 32) quads →
    first_bad_pair (quads_of (capture quads)) ≡ None

-- the firsts of a capture's pairs are its quadlets
abbrev pub CapturesAreReadBack : Type 0
CapturesAreReadBack =
    (quads : List ℕ) → All (λ q. q < 2 ^ 32) quads → firsts (quads_of (capture quads)) ≡ quads

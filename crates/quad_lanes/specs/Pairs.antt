-- The quadlets of bytes, and the pairs that quadlets make. In a capture each quadlet of a packet
-- stands before its bitwise inverse, as IEEE Std 1394 sends a PHY packet.
use Rattle.std.specs.Prelude.{ℕ, ◌+◌, ◌*◌, ◌-◌, ◌^◌, ◌==◌, Bool, not, List, [], ◌∷◌, ◌++◌, map, position, Option}
use Rattle.std.specs.Int.{w32, to_be_bytes}

-- the quadlet of four bytes, the first byte the highest
abbrev pub big_endian : ℕ → ℕ → ℕ → ℕ → ℕ
big_endian a b c d = 2 ^ 24 * a + 2 ^ 16 * b + 2 ^ 8 * c + d

-- the quadlets of bytes, without the bytes after the last whole one
abbrev pub quads_of : List ℕ → List ℕ
quads_of (a ∷ b ∷ c ∷ d ∷ bytes) = big_endian a b c d ∷ quads_of bytes
quads_of _ = []

-- the bytes of quadlets, the highest of each first
abbrev pub bytes_of : List ℕ → List ℕ
bytes_of [] = []
bytes_of (quad ∷ quads) = to_be_bytes w32 quad ++ bytes_of quads

-- the quadlets two by two, without the last one where their number is odd
abbrev pub pairs : List ℕ → List (ℕ × ℕ)
pairs (a ∷ b ∷ quads) = (a, b) ∷ pairs quads
pairs _ = []

-- the first quadlet of each pair
abbrev pub firsts : List ℕ → List ℕ
firsts quads = map (λ p. p.0) (pairs quads)

-- the quadlet with each of the 32 bits turned
abbrev pub inverse : ℕ → ℕ
inverse quad = 2 ^ 32 - 1 - quad

-- a pair is bad where its second quadlet isn't the inverse of its first
abbrev pub is_bad : ℕ × ℕ → Bool
is_bad p = not (p.1 == inverse p.0)

-- the number of the first bad pair, counted from 0
abbrev pub first_bad_pair : List ℕ → Option ℕ
first_bad_pair quads = position is_bad (pairs quads)

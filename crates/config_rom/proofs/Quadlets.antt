-- Quadlets and their bytes.
use Rattle.std.proofs.Common.{◌≡◌, ℕ, zero, suc, ◌+◌, ◌*◌, ◌%◌, ◌^◌, ◌<◌, ◌≤◌, List, [], ◌∷◌, length, drop, arith}
use Rattle.std.specs.Prelude.{slice_index}
use Rattle.std.specs.List.{All, AllByRecursion}
use Rattle.std.proofs.lemmas.List.Elements.{recursion_from_All}
use Rattle.byteorder.specs.Endian.{big_number}
use Rattle.quad_lanes.specs.Pairs.{quads_of, bytes_of}
use Rattle.quad_lanes.proofs.Lemmas.{quads-bytes, bytes-quads, length-quads_of}

-- a quadlet is read from its four bytes
pub index-quads_of : (xs : List ℕ) (i : ℕ) → i < length (quads_of xs) →
    big_number 4 (drop (4 * i) xs) ≡ slice_index (quads_of xs) i
index-quads_of (a ∷ b ∷ c ∷ d ∷ xs) zero lt = omega arith
index-quads_of (a ∷ b ∷ c ∷ d ∷ xs) (suc i) lt =
    let four : 4 * suc i ≡ suc (suc (suc (suc (4 * i)))) = omega arith in
    rw four (index-quads_of xs i (omega (arith, lt)))
index-quads_of (a ∷ b ∷ c ∷ []) i lt = absurd (omega (arith, lt))
index-quads_of (a ∷ b ∷ []) i lt = absurd (omega (arith, lt))
index-quads_of (a ∷ []) i lt = absurd (omega (arith, lt))
index-quads_of [] i lt = absurd (omega (arith, lt))

-- a quadlet's bytes are there
pub bytes_there : (xs : List ℕ) (i : ℕ) → i < length (quads_of xs) → 4 * i + 4 ≤ length xs
bytes_there xs i lt = omega (arith, lt, length-quads_of xs)

pub quads_of-bytes_of : (quads : List ℕ) → All (λ q. q < 2 ^ 32) quads →
    quads_of (bytes_of quads) ≡ quads
quads_of-bytes_of quads fit = quads-bytes quads (recursion_from_All _ _ fit)

pub bytes_of-quads_of : (bytes : List ℕ) → All (λ b. b < 256) bytes → length bytes % 4 ≡ 0 →
    bytes_of (quads_of bytes) ≡ bytes
bytes_of-quads_of bytes fit whole = bytes-quads bytes (recursion_from_All _ _ fit) whole

pub fit_of : (bytes : List ℕ) → AllByRecursion (λ b. b < 256) bytes →
    AllByRecursion (λ q. q < 2 ^ 32) (quads_of bytes)
fit_of (a ∷ b ∷ c ∷ d ∷ bytes) fit = (omega (arith, fit.0, fit.1.0, fit.1.1.0, fit.1.1.1.0), fit_of bytes fit.1.1.1.1)
fit_of _ fit = tt

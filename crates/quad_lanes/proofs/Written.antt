-- Quadlets are read back from the bytes that they are written as, and bytes from their quadlets.
use Rattle.std.proofs.Common.{◌≡◌, ◌∙◌, ℕ, ◌*◌, ◌%◌, ◌^◌, ◌<◌, List, [], ◌∷◌, ◌++◌, length, refl, ap, arith}
use Rattle.std.specs.List.{AllByRecursion}
use Rattle.quad_lanes.specs.Pairs.{quads_of, bytes_of}
use Rattle.quad_lanes.proofs.Captured.{big_endian-bytes, bytes-big_endian}

pub quads-bytes : (quads : List ℕ) → AllByRecursion (λ q. q < 2 ^ 32) quads →
    quads_of (bytes_of quads) ≡ quads
quads-bytes [] fit = refl
quads-bytes (q ∷ quads) fit = rw (big_endian-bytes q fit.0, quads-bytes quads fit.1) refl

pub length-bytes_of : (quads : List ℕ) → length (bytes_of quads) ≡ 4 * length quads
length-bytes_of [] = refl
length-bytes_of (q ∷ quads) = omega (arith, length-bytes_of quads)

pub bytes-quads : (bytes : List ℕ) → AllByRecursion (λ b. b < 256) bytes → length bytes % 4 ≡ 0 →
    bytes_of (quads_of bytes) ≡ bytes
bytes-quads [] fit whole = refl
bytes-quads (a ∷ b ∷ c ∷ d ∷ bytes) fit whole =
    let front = bytes-big_endian a b c d fit.0 fit.1.0 fit.1.1.0 fit.1.1.1.0 in
    let rest = bytes-quads bytes fit.1.1.1.1 (omega (arith, whole)) in
    ap (λ xs. xs ++ bytes_of (quads_of bytes)) front ∙ ap (λ xs. a ∷ b ∷ c ∷ d ∷ xs) rest
bytes-quads _ fit whole = absurd (omega (arith, whole))

-- Captures and the pairs that are read from them.
use Rattle.std.proofs.Common.{◌≡◌, ℕ, ◌+◌, ◌*◌, ◌%◌, ◌^◌, ◌<◌, List, [], ◌∷◌, ◌++◌, length, refl, ap, sym, ◌∙◌, arith, Some, None, true, false, Bool, w32, cond, map}
use Rattle.std.specs.Int.{to_be_bytes, byte_at}
use Rattle.std.specs.List.{All, AllByRecursion, position_from}
use Rattle.std.proofs.lemmas.Iterator.Adapters.{position_from-zero}
use Rattle.std.proofs.lemmas.List.Elements.{recursion_from_All}
use Rattle.quad_lanes.specs.Capture.{capture}
use Rattle.quad_lanes.specs.Pairs.{big_endian, first_bad_pair, firsts, inverse, is_bad, pairs, quads_of}

-- a quadlet is the one of its four bytes
pub big_endian-bytes : (q : ℕ) → q < 2 ^ 32 →
    big_endian (byte_at 3 q) (byte_at 2 q) (byte_at 1 q) (byte_at 0 q) ≡ q
big_endian-bytes q fits = omega (arith, fits)

-- four bytes are those of their quadlet
pub bytes-big_endian : (a b c d : ℕ) → a < 256 → b < 256 → c < 256 → d < 256 →
    to_be_bytes w32 (big_endian a b c d) ≡ a ∷ b ∷ c ∷ d ∷ []
bytes-big_endian a b c d la lb lc ld =
    let ea : byte_at 3 (big_endian a b c d) ≡ a = omega (arith, la, lb, lc, ld) in
    let eb : byte_at 2 (big_endian a b c d) ≡ b = omega (arith, la, lb, lc, ld) in
    let ec : byte_at 1 (big_endian a b c d) ≡ c = omega (arith, la, lb, lc, ld) in
    let ed : byte_at 0 (big_endian a b c d) ≡ d = omega (arith, la, lb, lc, ld) in
    rw (ea, eb, ec, ed) refl

-- the pairs of a capture, as they were written
abbrev pub pairs_with_inverse : List ℕ → List (ℕ × ℕ)
pairs_with_inverse [] = []
pairs_with_inverse (q ∷ quads) = (q, inverse q) ∷ pairs_with_inverse quads

pub pairs-capture : (quads : List ℕ) → AllByRecursion (λ q. q < 2 ^ 32) quads →
    pairs (quads_of (capture quads)) ≡ pairs_with_inverse quads
pairs-capture [] fit = refl
pairs-capture (q ∷ quads) fit =
    let first = big_endian-bytes q fit.0 in
    let second = big_endian-bytes (inverse q) (omega arith) in
    rw (first, second, pairs-capture quads fit.1) refl

pub length-capture : (quads : List ℕ) → length (capture quads) ≡ 8 * length quads
length-capture [] = refl
length-capture (q ∷ quads) = omega (arith, length-capture quads)

-- none of them is bad
none_bad : (k : ℕ) (quads : List ℕ) → position_from is_bad k (pairs_with_inverse quads) ≡ None
none_bad k [] = refl
none_bad k (q ∷ quads) = grind (arith, none_bad (k + 1) quads)

-- their firsts are the quadlets
first_of_each : (quads : List ℕ) → map (λ p. p.0) (pairs_with_inverse quads) ≡ quads
first_of_each [] = refl
first_of_each (q ∷ quads) = ap (λ qs. q ∷ qs) (first_of_each quads)

pub first_bad_pair-capture : (quads : List ℕ) → All (λ q. q < 2 ^ 32) quads →
    first_bad_pair (quads_of (capture quads)) ≡ None
first_bad_pair-capture quads fit =
    position_from-zero is_bad (pairs (quads_of (capture quads)))
    ∙ rw (pairs-capture quads (recursion_from_All _ _ fit)) (none_bad 0 quads)

pub firsts-capture : (quads : List ℕ) → All (λ q. q < 2 ^ 32) quads →
    firsts (quads_of (capture quads)) ≡ quads
firsts-capture quads fit = rw (pairs-capture quads (recursion_from_All _ _ fit)) (first_of_each quads)

-- where none is bad, the first isn't, and none of the others
none_after : {X : Type 0} (p : X → Bool) (k : ℕ) (x : X) (xs : List X) →
    position_from p k (x ∷ xs) ≡ None → (p x ≡ false) × (position_from p (k + 1) xs ≡ None)
none_after p k x xs none =
    elim (p x) as (λ b. cond b (Some k) (position_from p (k + 1) xs) ≡ None → (b ≡ false) × (position_from p (k + 1) xs ≡ None)) [
      | true ↦ λ some. absurd cc
      | false ↦ λ rest. (refl, rest)
    ] none

-- the second quadlet of a pair that isn't bad
second_is_inverse : (a b : ℕ) → is_bad (a, b) ≡ false → b ≡ inverse a
second_is_inverse a b good = grind (arith, good)

-- good pairs are a capture, where k pairs stand before them
capture_of_next : (k : ℕ) (bytes : List ℕ) → AllByRecursion (λ b. b < 256) bytes →
    length bytes % 8 ≡ 0 → position_from is_bad k (pairs (quads_of bytes)) ≡ None →
    bytes ≡ capture (firsts (quads_of bytes))
capture_of_next k [] fit whole good = refl
capture_of_next k (a ∷ b ∷ c ∷ d ∷ e ∷ f ∷ g ∷ h ∷ bytes) fit whole good =
    let parts = none_after is_bad k (big_endian a b c d, big_endian e f g h) (pairs (quads_of bytes)) good in
    let second = second_is_inverse (big_endian a b c d) (big_endian e f g h) parts.0 in
    let rest = capture_of_next (k + 1) bytes fit.1.1.1.1.1.1.1.1 (omega (arith, whole)) parts.1 in
    let front = bytes-big_endian a b c d fit.0 fit.1.0 fit.1.1.0 fit.1.1.1.0 in
    let back = bytes-big_endian e f g h fit.1.1.1.1.0 fit.1.1.1.1.1.0 fit.1.1.1.1.1.1.0 fit.1.1.1.1.1.1.1.0 in
    let kept = capture (firsts (quads_of bytes)) in
    sym (
    ap (λ xs. xs ++ (to_be_bytes w32 (inverse (big_endian a b c d)) ++ kept)) front
    ∙ ap (λ xs. a ∷ b ∷ c ∷ d ∷ (xs ++ kept)) (ap (to_be_bytes w32) (sym second) ∙ back)
    ∙ ap (λ xs. a ∷ b ∷ c ∷ d ∷ e ∷ f ∷ g ∷ h ∷ xs) (sym rest)
    )
capture_of_next k _ fit whole good = absurd (omega (arith, whole))

pub capture_of_pairs : (bytes : List ℕ) → All (λ b. b < 256) bytes → length bytes % 8 ≡ 0 →
    first_bad_pair (quads_of bytes) ≡ None → bytes ≡ capture (firsts (quads_of bytes))
capture_of_pairs bytes fit whole good =
    capture_of_next 0 bytes (recursion_from_All _ _ fit) whole (sym (position_from-zero is_bad (pairs (quads_of bytes))) ∙ good)

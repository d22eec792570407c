-- How many quadlets bytes hold, how many pairs quadlets make, that bytes fit eight bits and quadlets 32.
use Rattle.std.proofs.Common.{◌≡◌, ℕ, ◌/◌, ◌^◌, ◌<◌, List, [], ◌∷◌, length, get_or, refl, arith}
use Rattle.std.specs.Prelude.{slice_index}
use Rattle.std.specs.List.{All, AllByRecursion}
use Rattle.std.proofs.lemmas.List.Elements.{All-nil, All-cons, All-from_get_or}
use Rattle.quad_lanes.specs.Pairs.{quads_of, firsts}

pub length-quads_of : (xs : List ℕ) → length (quads_of xs) ≡ length xs / 4
length-quads_of (a ∷ b ∷ c ∷ d ∷ xs) = omega (arith, length-quads_of xs)
length-quads_of (a ∷ b ∷ c ∷ []) = refl
length-quads_of (a ∷ b ∷ []) = refl
length-quads_of (a ∷ []) = refl
length-quads_of [] = refl

pub length-firsts : (xs : List ℕ) → length (firsts xs) ≡ length xs / 2
length-firsts (a ∷ b ∷ xs) = omega (arith, length-firsts xs)
length-firsts (a ∷ []) = refl
length-firsts [] = refl

pub all_bytes : (bytes : List ℕ) → ((i : ℕ) → get_or bytes i 0 < 256) → All (λ b. b < 256) bytes
all_bytes bytes fit = All-from_get_or (λ b. b < 256) bytes 0 (λ i _. fit i)

pub all_quadlets : (quads : List ℕ) → ((i : ℕ) → slice_index quads i < 2 ^ 32) →
    All (λ q. q < 2 ^ 32) quads
all_quadlets quads fit = All-from_get_or (λ q. q < 2 ^ 32) quads 0 (λ i _. fit i)

-- the quadlets of pairs fit 32 bits, since bytes fit eight
pub fit_firsts : (bytes : List ℕ) → AllByRecursion (λ b. b < 256) bytes →
    All (λ q. q < 2 ^ 32) (firsts (quads_of bytes))
fit_firsts (a ∷ b ∷ c ∷ d ∷ e ∷ f ∷ g ∷ h ∷ bytes) (la, (lb, (lc, (ld, (le, (lf, (lg, (lh, rest)))))))) = All-cons (λ q. q < 2 ^ 32) _ _ (omega arith) (fit_firsts bytes rest)
fit_firsts _ h = All-nil (λ q. q < 2 ^ 32)

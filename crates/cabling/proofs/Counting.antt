-- How often numbers stand in a list, and how long a list is in which none stands twice.
use Rattle.std.proofs.Common.{◌≡◌, ◌≢◌, ℕ, zero, suc, ◌+◌, ◌<◌, ◌≤◌, ◌⊎◌, inl, inr, Bool, true, false, eqb, cond, List, [], ◌∷◌, length, refl, sym, subst, ap, ◌∙◌, arith}
use Rattle.std.proofs.lemmas.Bool.{cases_eq, cases_lt, ne_eqb}
use Rattle.std.proofs.lemmas.Bool.Decides.{nat_tests}
use Rattle.cabling.specs.Walk.{times}
use Rattle.cabling.proofs.Once.{In, Once}

-- one more of the same, or of another
pub times-same : (x y : ℕ) (ys : List ℕ) → y ≡ x → times x (y ∷ ys) ≡ suc (times x ys)
times-same x y ys e = go (eqb y x) (grind (arith, nat_tests))
  where
    go : (b : Bool) → b ≡ true → cond b 1 0 + times x ys ≡ suc (times x ys)
    go true e = omega arith
    go false e = absurd cc

pub times-other : (x y : ℕ) (ys : List ℕ) → y ≢ x → times x (y ∷ ys) ≡ times x ys
times-other x y ys ne = go (eqb y x) (ne_eqb y x ne)
  where
    go : (b : Bool) → b ≡ false → cond b 1 0 + times x ys ≡ times x ys
    go true e = absurd cc
    go false e = omega arith

pub times_out : (x : ℕ) (ys : List ℕ) → (In x ys → ⊥) → times x ys ≡ 0
times_out x [] out = refl
times_out x (y ∷ ys) out = times-other x y ys (λ e. out (inl (sym e))) ∙ times_out x ys (λ i. out (inr i))

pub times_in : (x : ℕ) (ys : List ℕ) → Once ys → In x ys → times x ys ≡ 1
times_in x [] once i = absurd i
times_in x (y ∷ ys) once (inl e) = times-same x y ys (sym e) ∙ ap (λ (n : ℕ). suc n) (times_out x ys (λ i. once.0 (subst (λ (z : ℕ). In z ys) e i)))
times_in x (y ∷ ys) once (inr i) = times-other x y ys (λ e. once.0 (subst (λ (z : ℕ). In z ys) (sym e) i)) ∙ times_in x ys once.1 i

pub in_or_not : (x : ℕ) (ys : List ℕ) → In x ys ⊎ (In x ys → ⊥)
in_or_not x [] = inr (λ i. i)
in_or_not x (y ∷ ys) = elim (cases_eq x y) [
  | inl e ↦ inl (inl e)
  | inr ne ↦ elim (in_or_not x ys) [
    | inl i ↦ inl (inr i)
    | inr out ↦ inr (λ i. elim i [ inl e ↦ ne e | inr j ↦ out j ])
  ]
]

-- how often the numbers below a number stand in a list
total : ℕ → List ℕ → ℕ
total zero xs = 0
total (suc n) xs = total n xs + times n xs

total-none : (n : ℕ) → total n [] ≡ 0
unfolding total
total-none zero = refl
total-none (suc n) = omega (arith, total-none n)

total-above : (n x : ℕ) (xs : List ℕ) → n ≤ x → total n (x ∷ xs) ≡ total n xs
unfolding total
total-above zero x xs le = refl
total-above (suc n) x xs le = omega (arith, total-above n x xs (omega arith), times-other n x xs (λ e. omega arith))

total-below : (n x : ℕ) (xs : List ℕ) → x < n → total n (x ∷ xs) ≡ suc (total n xs)
unfolding total
total-below zero x xs less = absurd (omega (arith, less))
total-below (suc n) x xs less = elim (cases_lt x n) [
  | inl below ↦ omega (arith, total-below n x xs below, times-other n x xs (λ e. omega arith))
  | inr above ↦ omega (arith, total-above n x xs above, times-same n x xs (omega arith))
]

total-all : (n : ℕ) (xs : List ℕ) → ((x : ℕ) → In x xs → x < n) → total n xs ≡ length xs
total-all n [] small = total-none n
total-all n (x ∷ xs) small = total-below n x xs (small x (inl refl)) ∙ ap (λ (k : ℕ). suc k) (total-all n xs (λ y i. small y (inr i)))

total-few : (n : ℕ) (xs : List ℕ) → Once xs → total n xs ≤ n
unfolding total
total-few zero xs once = omega arith
total-few (suc n) xs once = elim (in_or_not n xs) [
  | inl i ↦ omega (arith, total-few n xs once, times_in n xs once i)
  | inr out ↦ omega (arith, total-few n xs once, times_out n xs out)
]

-- numbers below n, none of them twice, are at most n
pub few : (n : ℕ) (xs : List ℕ) → Once xs → ((x : ℕ) → In x xs → x < n) → length xs ≤ n
few n xs once small = omega (arith, total-all n xs small, total-few n xs once)

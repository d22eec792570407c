-- Lists in two parts, and a part that stands in a list from a place on.
use Rattle.std.proofs.Common.{◌≡◌, ℕ, zero, suc, ◌+◌, Some, List, [], ◌∷◌, ◌++◌, length, slice_get, refl, ap, ◌∙◌, arith}

pub slice_get-left : {X : Type 0} (xs ys : List X) (i : ℕ) (x : X) → slice_get xs i ≡ Some x →
    slice_get (xs ++ ys) i ≡ Some x
slice_get-left [] ys i x e = absurd cc
slice_get-left (y ∷ xs) ys zero x e = e
slice_get-left (y ∷ xs) ys (suc i) x e = slice_get-left xs ys i x e

pub slice_get-right : {X : Type 0} (xs ys : List X) (n j : ℕ) → length xs ≡ n →
    slice_get (xs ++ ys) (n + j) ≡ slice_get ys j
slice_get-right [] ys n j e = ap (slice_get ys) (omega (arith, e))
slice_get-right (x ∷ xs) ys zero j e = absurd (omega (arith, e))
slice_get-right (x ∷ xs) ys (suc n) j e =
    let rest : length xs ≡ n = omega (arith, e) in
    let next : suc n + j ≡ suc (n + j) = omega arith in
    rw next (slice_get-right xs ys n j rest)

-- the second list stands in the first, from this number on
abbrev pub Has : {A : Type 0} → List A → ℕ → List A → Type 0
Has {A} whole first part =
    (i : ℕ) (x : A) → slice_get part i ≡ Some x → slice_get whole (first + i) ≡ Some x

pub has-left : {A : Type 0} → (whole : List A) (first : ℕ) (xs ys : List A) →
    Has whole first (xs ++ ys) → Has whole first xs
has-left whole first xs ys h i x e = h i x (slice_get-left xs ys i x e)

pub has-right :
    {A : Type 0} → (whole : List A) (first n : ℕ) (xs ys : List A) → length xs ≡ n → Has whole first (xs ++ ys) →
    Has whole (first + n) ys
has-right whole first n xs ys long h i x e =
    let z : first + n + i ≡ first + (n + i) = omega arith in
    ap (slice_get whole) z ∙ h (n + i) x (slice_get-right xs ys n i long ∙ e)

pub has-tail : {A : Type 0} → (whole : List A) (first : ℕ) (y : A) (ys : List A) →
    Has whole first (y ∷ ys) → Has whole (first + 1) ys
has-tail whole first y ys h i x e =
    let z : first + 1 + i ≡ first + suc i = omega arith in ap (slice_get whole) z ∙ h (suc i) x e

pub has-head : {A : Type 0} → (whole : List A) (first : ℕ) (y : A) (ys : List A) →
    Has whole first (y ∷ ys) → slice_get whole first ≡ Some y
has-head whole first y ys h = let z : first ≡ first + 0 = omega arith in ap (slice_get whole) z ∙ h 0 y refl

pub has-itself : {A : Type 0} → (whole : List A) → Has whole 0 whole
has-itself whole i x e = let z : 0 + i ≡ i = omega arith in ap (slice_get whole) z ∙ e

-- The first item of a list that passes a test: its place, and the list with another item there.
use Rattle.std.proofs.Common.{◌≡◌, ◌∙◌, ◌⊎◌, inl, inr, ℕ, zero, suc, ◌<◌, Bool, true, false, List, [], ◌∷◌, ◌++◌, Option, Some, None, length, refl, sym, ap, arith}
use Rattle.std.specs.Prelude.{if◌then◌else◌, slice_get, slice_set, ◌+◌, cond, nat_lt}
use Rattle.std.specs.List.{position, position_or_len}
use Rattle.std.proofs.lemmas.List.Recursion.{is_position_or_len}
use Rattle.std.proofs.lemmas.Bool.Decides.{nat_tests}
use Rattle.reset_list.specs.Update.{first_of, next_place, place_of, updated}

no_place : (found : Option ℕ) → next_place found ≡ None → found ≡ None
no_place None e = refl
no_place (Some at) e = absurd cc

not_next : {P : Type 0} (k : ℕ) → Some 0 ≡ Some (suc k) → P
not_next k e = let wrong : 0 ≡ suc k = cc in absurd (omega (arith, wrong))

same_next : (n k : ℕ) → Some (suc n) ≡ Some (suc k) → n ≡ k
same_next n k e = let next : suc n ≡ suc k = cc in omega (arith, next)

-- ---- its place

pub place_within : {X : Type 0} (p : X → Bool) (xs : List X) (at : ℕ) → place_of p xs ≡ Some at → at < length xs
place_within p [] at e = absurd cc
place_within p (x ∷ xs) at e = go (p x) (place_of p xs) at refl e (λ k is. place_within p xs k is)
  where
    go : (here : Bool) (found : Option ℕ) (at : ℕ) → place_of p xs ≡ found →
        (if here then Some 0 else next_place found) ≡ Some at →
        ((k : ℕ) → place_of p xs ≡ Some k → k < length xs) → at < suc (length xs)
    go true found zero is e more = omega arith
    go true found (suc k) is e more = not_next k e
    go false None at is e more = absurd cc
    go false (Some n) zero is e more = not_next n (sym e)
    go false (Some n) (suc k) is e more = omega (arith, more n is, same_next n k e)

pub place_passes : {X : Type 0} (p : X → Bool) (xs : List X) (at : ℕ) (x : X) →
    place_of p xs ≡ Some at → slice_get xs at ≡ Some x → p x ≡ true
place_passes p [] at x e get = absurd cc
place_passes p (z ∷ zs) at x e get = go (p z) (place_of p zs) at refl refl e get (λ k is got. place_passes p zs k x is got)
  where
    go : (here : Bool) (found : Option ℕ) (at : ℕ) → p z ≡ here → place_of p zs ≡ found →
        (if here then Some 0 else next_place found) ≡ Some at → slice_get (z ∷ zs) at ≡ Some x →
        ((k : ℕ) → place_of p zs ≡ Some k → slice_get zs k ≡ Some x → p x ≡ true) → p x ≡ true
    go true found zero passes is e get more = let same : z ≡ x = cc in sym (ap p same) ∙ passes
    go true found (suc k) passes is e get more = not_next k e
    go false None at passes is e get more = absurd cc
    go false (Some n) zero passes is e get more = not_next n (sym e)
    go false (Some n) (suc k) passes is e get more = more k (is ∙ ap (λ (m : ℕ). Some m) (same_next n k e)) get

pub first_there : {X : Type 0} (p : X → Bool) (xs : List X) (at : ℕ) → place_of p xs ≡ Some at →
    first_of p xs ≡ slice_get xs at
first_there p [] at e = absurd cc
first_there p (x ∷ xs) at e = go (p x) (place_of p xs) at refl e (λ k is. first_there p xs k is)
  where
    go : (here : Bool) (found : Option ℕ) (at : ℕ) → place_of p xs ≡ found →
        (if here then Some 0 else next_place found) ≡ Some at →
        ((k : ℕ) → place_of p xs ≡ Some k → first_of p xs ≡ slice_get xs k) →
        (if here then Some x else first_of p xs) ≡ slice_get (x ∷ xs) at
    go true found zero is e more = refl
    go true found (suc k) is e more = not_next k e
    go false None at is e more = absurd cc
    go false (Some n) zero is e more = not_next n (sym e)
    go false (Some n) (suc k) is e more = more k (is ∙ ap (λ (m : ℕ). Some m) (same_next n k e))

pub first_nowhere : {X : Type 0} (p : X → Bool) (xs : List X) → place_of p xs ≡ None → first_of p xs ≡ None
first_nowhere p [] e = refl
first_nowhere p (x ∷ xs) e = go (p x) e (λ none. first_nowhere p xs none)
  where
    go : (here : Bool) → (if here then Some 0 else next_place (place_of p xs)) ≡ None →
        (place_of p xs ≡ None → first_of p xs ≡ None) → (if here then Some x else first_of p xs) ≡ None
    go true e more = absurd cc
    go false e more = more (no_place (place_of p xs) e)

-- ---- another item in its place

pub updated_at : {X : Type 0} (p : X → Bool) (f : Option X → X) (xs : List X) (x y : X) (at : ℕ) →
    place_of p xs ≡ Some at → slice_get xs at ≡ Some x → y ≡ f (Some x) →
    slice_set xs at y ≡ updated p f xs
updated_at p f [] x y at is get e = absurd cc
updated_at p f (z ∷ zs) x y at is get e = go (p z) (place_of p zs) at refl is get (λ k there got. updated_at p f zs x y k there got e)
  where
    go : (here : Bool) (found : Option ℕ) (at : ℕ) → place_of p zs ≡ found →
        (if here then Some 0 else next_place found) ≡ Some at → slice_get (z ∷ zs) at ≡ Some x →
        ((k : ℕ) → place_of p zs ≡ Some k → slice_get zs k ≡ Some x → slice_set zs k y ≡ updated p f zs) →
        slice_set (z ∷ zs) at y ≡ (if here then f (Some z) ∷ zs else z ∷ updated p f zs)
    go true found zero there is get more = let same : x ≡ z = cc in ap (λ (w : _). w ∷ zs) (e ∙ ap (λ (w : _). f (Some w)) same)
    go true found (suc k) there is get more = not_next k is
    go false None at there is get more = absurd cc
    go false (Some n) zero there is get more = not_next n (sym is)
    go false (Some n) (suc k) there is get more =
        ap (λ (ws : _). z ∷ ws) (more k (there ∙ ap (λ (m : ℕ). Some m) (same_next n k is)) get)

pub updated_none : {X : Type 0} (p : X → Bool) (f : Option X → X) (xs : List X) (y : X) →
    place_of p xs ≡ None → y ≡ f None → xs ++ y ∷ [] ≡ updated p f xs
updated_none p f [] y is e = ap (λ (w : _). w ∷ []) e
updated_none p f (z ∷ zs) y is e = go (p z) is (λ none. updated_none p f zs y none e)
  where
    go : (here : Bool) → (if here then Some 0 else next_place (place_of p zs)) ≡ None →
        (place_of p zs ≡ None → zs ++ y ∷ [] ≡ updated p f zs) →
        z ∷ (zs ++ y ∷ []) ≡ (if here then f (Some z) ∷ zs else z ∷ updated p f zs)
    go true is more = absurd cc
    go false is more = ap (λ (ws : _). z ∷ ws) (more (no_place (place_of p zs) is))

-- ---- places in a list that changes

pub place_set : {X : Type 0} (p : X → Bool) (xs : List X) (at : ℕ) (x y : X) → slice_get xs at ≡ Some x →
    p y ≡ p x → place_of p (slice_set xs at y) ≡ place_of p xs
place_set p [] at x y get e = absurd cc
place_set p (z ∷ zs) zero x y get e =
    let same : x ≡ z = cc in
    ap (λ (here : Bool). if here then Some 0 else next_place (place_of p zs)) (e ∙ ap p same)
place_set p (z ∷ zs) (suc at) x y get e =
    ap (λ (found : Option ℕ). if p z then Some 0 else next_place found) (place_set p zs at x y get e)

pub place_other : {X : Type 0} (p : X → Bool) (xs : List X) (y : X) → p y ≡ false →
    place_of p (xs ++ y ∷ []) ≡ place_of p xs
place_other p [] y e = ap (λ (here : Bool). if here then Some 0 else None) e
place_other p (z ∷ zs) y e =
    ap (λ (found : Option ℕ). if p z then Some 0 else next_place found) (place_other p zs y e)

pub place_new : {X : Type 0} (p : X → Bool) (xs : List X) (y : X) → p y ≡ true → place_of p xs ≡ None →
    place_of p (xs ++ y ∷ []) ≡ Some (length xs)
place_new p [] y e is = ap (λ (here : Bool). if here then Some 0 else None) e
place_new p (z ∷ zs) y e is = go (p z) is (λ none. place_new p zs y e none)
  where
    go : (here : Bool) → (if here then Some 0 else next_place (place_of p zs)) ≡ None →
        (place_of p zs ≡ None → place_of p (zs ++ y ∷ []) ≡ Some (length zs)) →
        (if here then Some 0 else next_place (place_of p (zs ++ y ∷ []))) ≡ Some (suc (length zs))
    go true is more = absurd cc
    go false is more = ap next_place (more (no_place (place_of p zs) is))

-- ---- items of a list that changes

-- an item that is there was there, or it is the other one
pub get_set : {X : Type 0} (xs : List X) (at i : ℕ) (y k : X) → slice_get (slice_set xs at y) i ≡ Some k →
    ((i ≡ at) × (k ≡ y)) ⊎ (slice_get xs i ≡ Some k)
get_set [] at i y k get = inr get
get_set (z ∷ zs) zero zero y k get = inl (refl, let same : k ≡ y = cc in same)
get_set (z ∷ zs) zero (suc i) y k get = inr get
get_set (z ∷ zs) (suc at) zero y k get = inr get
get_set (z ∷ zs) (suc at) (suc i) y k get = elim (get_set zs at i y k get) [
  | inl (same, is) ↦ inl (ap suc same, is)
  | inr there ↦ inr there
]

pub get_push : {X : Type 0} (xs : List X) (i : ℕ) (y k : X) → slice_get (xs ++ y ∷ []) i ≡ Some k →
    ((i ≡ length xs) × (k ≡ y)) ⊎ (slice_get xs i ≡ Some k)
get_push [] zero y k get = inl (refl, let same : k ≡ y = cc in same)
get_push [] (suc i) y k get = absurd cc
get_push (z ∷ zs) zero y k get = inr get
get_push (z ∷ zs) (suc i) y k get = elim (get_push zs i y k get) [
  | inl (same, is) ↦ inl (ap suc same, is)
  | inr there ↦ inr there
]

-- ---- it is where a slice has it first

passed : {X : Type 0} → (X → Bool) → List X → ℕ
passed p [] = 0
passed p (x ∷ xs) = cond (p x) 0 (1 + passed p xs)

one_on : (here there : Bool) (k n : ℕ) → nat_lt k n ≡ here → nat_lt (1 + k) (suc n) ≡ there →
    next_place (cond here (Some k) None) ≡ cond there (Some (1 + k)) None
one_on true true k n e f = let next : suc k ≡ 1 + k = omega arith in ap (λ (m : ℕ). Some m) next
one_on false false k n e f = refl
one_on true false k n e f = absurd (grind (arith, nat_tests))
one_on false true k n e f = absurd (grind (arith, nat_tests))

at_first : (n z : ℕ) (there : Bool) → z ≡ 0 → nat_lt z (suc n) ≡ there → Some z ≡ cond there (Some z) None
at_first n z true e f = refl
at_first n z false e f = absurd (grind (arith, nat_tests))

passed_place : {X : Type 0} (p : X → Bool) (xs : List X) →
    place_of p xs ≡ cond (nat_lt (passed p xs) (length xs)) (Some (passed p xs)) None
unfolding passed
passed_place p [] = refl
passed_place p (x ∷ xs) = go (p x) (passed_place p xs)
  where
    go : (here : Bool) → place_of p xs ≡ cond (nat_lt (passed p xs) (length xs)) (Some (passed p xs)) None →
        (if here then Some 0 else next_place (place_of p xs))
        ≡ cond (nat_lt (cond here 0 (1 + passed p xs)) (suc (length xs))) (Some (cond here 0 (1 + passed p xs))) None
    go true more = at_first (length xs) 0 (nat_lt 0 (suc (length xs))) refl refl
    go false more =
        ap next_place more ∙ one_on (nat_lt (passed p xs) (length xs)) (nat_lt (1 + passed p xs) (suc (length xs))) (passed p xs) (length xs) refl refl

passed_is : {X : Type 0} (p : X → Bool) (xs : List X) → passed p xs ≡ position_or_len p xs
unfolding passed
passed_is p xs = is_position_or_len (λ ys. passed p ys) p refl (λ y ys. refl) xs

pub place_is : {X : Type 0} (p : X → Bool) (xs : List X) → position p xs ≡ place_of p xs
place_is p xs =
    sym (passed_place p xs ∙ ap (λ (k : ℕ). cond (nat_lt k (length xs)) (Some k) None) (passed_is p xs))

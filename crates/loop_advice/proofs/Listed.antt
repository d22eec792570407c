-- Cables in lists.
use Rattle.std.proofs.Common.{◌≡◌, ℕ, ◌⊎◌, inl, inr, Some, List, [], ◌∷◌, ◌++◌, zero, suc, ◌+◌, ◌<◌, length, take, drop, get_or, slice_get, add-one, arith, IsTrue, false, refl, sym, subst, ap, ◌∙◌}
use Rattle.cabling.specs.declared.cable.Cable.{Cable}
use Rattle.cabling.specs.Wiring.{Wiring, IsCabling}
use Rattle.cabling.specs.Component.{IsClosed}
use Rattle.loop_advice.specs.Cables.{turned, IsSame, Lists, HasNoneTwice, IsCableOf}

-- ---- the same cable

pub same_back : (x y : Cable) → IsSame x y → IsSame y x
same_back x y (inl e) = inl (sym e)
same_back x y (inr e) = inr (sym (ap turned e))

pub same_along : (x y z : Cable) → IsSame x y → IsSame y z → IsSame x z
same_along x y z (inl e) s = subst (λ (w : Cable). IsSame w z) (sym e) s
same_along x y z (inr e) (inl f) = inr (e ∙ ap turned f)
same_along x y z (inr e) (inr f) = inl (e ∙ ap turned f)

pub same_turned : (x : Cable) → IsSame (turned x) x
same_turned x = inr refl

-- a list that has a cable has it turned
pub lists_same : (xs : List Cable) (x y : Cable) → IsSame y x → Lists xs x → Lists xs y
lists_same [] x y s l = l
lists_same (z ∷ zs) x y s (inl l) = inl (same_along y x z s l)
lists_same (z ∷ zs) x y s (inr l) = inr (lists_same zs x y s l)

pub lists_append : (xs ys : List Cable) (x : Cable) → Lists (xs ++ ys) x → Lists xs x ⊎ Lists ys x
lists_append [] ys x l = inr l
lists_append (z ∷ zs) ys x (inl l) = inl (inl l)
lists_append (z ∷ zs) ys x (inr l) = elim (lists_append zs ys x l) [ inl a ↦ inl (inr a) | inr b ↦ inr b ]

pub lists_left : (xs ys : List Cable) (x : Cable) → Lists xs x → Lists (xs ++ ys) x
lists_left [] ys x l = absurd l
lists_left (z ∷ zs) ys x (inl l) = inl l
lists_left (z ∷ zs) ys x (inr l) = inr (lists_left zs ys x l)

pub lists_right : (xs ys : List Cable) (x : Cable) → Lists ys x → Lists (xs ++ ys) x
lists_right [] ys x l = l
lists_right (z ∷ zs) ys x l = inr (lists_right zs ys x l)

-- one cable more
pub lists_last : (xs : List Cable) (y x : Cable) → Lists (xs ++ y ∷ []) x → Lists xs x ⊎ IsSame x y
lists_last xs y x l = elim (lists_append xs (y ∷ []) x l) [
  | inl a ↦ inl a
  | inr b ↦ elim b [ inl s ↦ inr s | inr n ↦ absurd n ]
]

pub once_last : (xs : List Cable) (y : Cable) → HasNoneTwice xs → (Lists xs y → ⊥) →
    HasNoneTwice (xs ++ y ∷ [])
once_last [] y h out = ((λ l. l), tt)
once_last (x ∷ xs) y h out = (
  (λ l. elim (lists_last xs y x l) [
    | inl before ↦ h.0 before
    | inr s ↦ out (inl (same_back x y s))
  ]),
  once_last xs y h.1 (λ l. out (inr l)),
)

-- a cable in the first part is not in the second
pub once_parts : (xs : List Cable) (y : Cable) (ys : List Cable) → HasNoneTwice (xs ++ y ∷ ys) →
    Lists xs y → ⊥
once_parts [] y ys h l = l
once_parts (x ∷ xs) y ys h (inl s) = h.0 (lists_same (xs ++ y ∷ ys) y x (same_back y x s) (lists_right xs (y ∷ ys) y (inl (inl refl))))
once_parts (x ∷ xs) y ys h (inr l) = once_parts xs y ys h.1 l

-- ---- cables of a set of nodes

pub of_turned : (c : Wiring) (set : ℕ) (x : Cable) → IsCabling c → IsClosed c set →
    IsCableOf c set x → IsCableOf c set (turned x)
of_turned c set x is closed h = record {
  joined = is.both_ways x.a x.b h.joined;
  here = closed x.a x.b h.joined h.here;
}

pub of_same : (c : Wiring) (set : ℕ) (x y : Cable) → IsCabling c → IsClosed c set → IsSame y x →
    IsCableOf c set x → IsCableOf c set y
of_same c set x y is closed (inl e) h = subst (λ (z : Cable). IsCableOf c set z) (sym e) h
of_same c set x y is closed (inr e) h = subst (λ (z : Cable). IsCableOf c set z) (sym e) (of_turned c set x is closed h)

-- ---- a place of a list

next_at : (xs : List Cable) (i : ℕ) (x : Cable) → slice_get xs i ≡ Some x →
    take (suc i) xs ≡ take i xs ++ x ∷ []
next_at [] i x h = absurd cc
next_at (y ∷ ys) zero x h = let e : y ≡ x = cc in ap (λ (z : Cable). z ∷ []) e
next_at (y ∷ ys) (suc i) x h = ap (λ (zs : List Cable). y ∷ zs) (next_at ys i x h)

-- the part before a place, and what stands there
pub take_next : (xs : List Cable) (i : ℕ) (x : Cable) → slice_get xs i ≡ Some x →
    take (i + 1) xs ≡ take i xs ++ x ∷ []
take_next xs i x h = rw (add-one i) (next_at xs i x h)

-- and what comes behind it
pub parted : (xs : List Cable) (i : ℕ) (x : Cable) → slice_get xs i ≡ Some x →
    xs ≡ take i xs ++ x ∷ drop (suc i) xs
parted [] i x h = absurd cc
parted (y ∷ ys) zero x h = let e : y ≡ x = cc in ap (λ (z : Cable). z ∷ ys) e
parted (y ∷ ys) (suc i) x h = ap (λ (zs : List Cable). y ∷ zs) (parted ys i x h)

pub lists_at : (xs : List Cable) (i : ℕ) (x : Cable) → slice_get xs i ≡ Some x → Lists xs x
lists_at xs i x h = subst (λ (zs : List Cable). Lists zs x) (sym (parted xs i x h)) (lists_right (take i xs) (x ∷ drop (suc i) xs) x (inl (inl refl)))

pub lists_take : (xs : List Cable) (i : ℕ) (x : Cable) → Lists (take i xs) x → Lists xs x
lists_take xs zero x l = absurd l
lists_take [] (suc i) x l = l
lists_take (y ∷ ys) (suc i) x (inl s) = inl s
lists_take (y ∷ ys) (suc i) x (inr l) = inr (lists_take ys i x l)

-- what is read at an index stands there
pub read_at : (xs : List Cable) (i : ℕ) (d : Cable) → i < length xs →
    slice_get xs i ≡ Some (get_or xs i d)
read_at [] i d h = absurd (omega (arith, h))
read_at (y ∷ ys) zero d h = refl
read_at (y ∷ ys) (suc i) d h = read_at ys i d (omega (arith, h))

pub lists_turned : (xs : List Cable) (x : Cable) → Lists xs x → Lists xs (turned x)
lists_turned xs x l = lists_same xs x (turned x) (same_turned x) l

pub not_true : IsTrue false → ⊥
not_true h = cc

-- no cable stands in both parts of a list in which none stands twice
pub once_apart : (xs ys : List Cable) (z : Cable) → HasNoneTwice (xs ++ ys) → Lists xs z →
    Lists ys z → ⊥
once_apart [] ys z h l m = l
once_apart (x ∷ xs) ys z h (inl s) m = h.0 (lists_right xs ys x (lists_same ys z x (same_back z x s) m))
once_apart (x ∷ xs) ys z h (inr l) m = once_apart xs ys z h.1 l m

-- two lists with no cable in both
pub once_both : (xs ys : List Cable) → HasNoneTwice xs → HasNoneTwice ys →
    ((z : Cable) → Lists xs z → Lists ys z → ⊥) → HasNoneTwice (xs ++ ys)
once_both [] ys h k out = k
once_both (x ∷ xs) ys h k out = (
  (λ l. elim (lists_append xs ys x l) [ inl a ↦ h.0 a | inr b ↦ out x (inl (inl refl)) b ]),
  once_both xs ys h.1 k (λ z a b. out z (inr a) b),
)

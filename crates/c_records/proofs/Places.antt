-- Records that are written place by place.
use Rattle.std.proofs.Common.{◌≡◌, ◌≢◌, ℕ, zero, suc, replicate, ◌+◌, ◌<◌, ◌≤◌, Bool, true, false, eqb, List, length, get_or, set, refl, sym, subst, arith, get_or-set_same, get_or-set_other, [], ◌∷◌, ◌++◌, take, drop, map, ap, ◌∙◌, append_assoc, drop-cons}
use Rattle.std.proofs.lemmas.List.{length-map, length-take-le, set_at, map-append}
use Rattle.std.proofs.Math.Seq.{take-suc}
use Rattle.std.proofs.lemmas.Bool.{eqb-true, eqb-false}

-- what holds of the places below one, and of what is written there, holds of the places below the next
pub written : {A : Type 0} (P : ℕ → A → Type 0) (l : List A) (i : ℕ) (a : A) → i < length l →
    ((k : ℕ) (d : A) → k < i → P k (get_or l k d)) → P i a → (k : ℕ) (d : A) → k < i + 1 →
    P k (get_or (set l i a) k d)
written {A} P l i a inside below here k d lt = at (eqb k i) refl
  where
    at : (same : Bool) → eqb k i ≡ same → P k (get_or (set l i a) k d)
    at true e = let is : k ≡ i = eqb-true k i e in subst (λ (j : ℕ). P j (get_or (set l i a) j d)) (sym is) (rw (get_or-set_same l i a d inside) here)
    at false e = let other : k ≢ i = eqb-false k i e in rw (get_or-set_other l i k a d other) (below k d (omega arith))

-- the places above it stay as they were
pub stays : {A : Type 0} (l old : List A) (i : ℕ) (a : A) →
    ((k : ℕ) (d : A) → i ≤ k → get_or l k d ≡ get_or old k d) → (k : ℕ) (d : A) → i + 1 ≤ k →
    get_or (set l i a) k d ≡ get_or old k d
stays l old i a above k d le = let other : k ≢ i = λ e. omega (arith, e) in rw (get_or-set_other l i k a d other) (above k d (omega arith))

-- so many places that hold one thing
pub replicated : {A : Type 0} (n k : ℕ) (a : A) → get_or (replicate n a) k a ≡ a
replicated zero k a = refl
replicated (suc n) zero a = refl
replicated (suc n) (suc k) a = replicated n k a

-- one more record at the front of a place
pub put_next : {A B : Type 0} (f : A → B) (l : List A) (old : List B) (i : ℕ) (d : A) →
    i < length l → i < length old →
    set (map f (take i l) ++ drop i old) i (f (get_or l i d)) ≡ map f (take (i + 1) l) ++ drop (i + 1) old
put_next {A} {B} f l old i d here room =
    let x : A = get_or l i d in
    let count : length (map f (take i l)) ≡ i = length-map (take i l) f ∙ length-take-le i l (omega arith) in
    let head : set (map f (take i l) ++ drop i old) i (f x) ≡ map f (take i l) ++ f x ∷ drop (suc i) old =
    rw (drop-cons old i (f x)) (set_at (map f (take i l)) (get_or old i (f x)) (drop (suc i) old) (f x) i count) in
    let tail : map f (take (suc i) l) ≡ map f (take i l) ++ f x ∷ [] = ap (map f) (take-suc l i d here) ∙ map-append f (take i l) (x ∷ []) in
    let next : suc i ≡ i + 1 = omega arith in
    head ∙ sym (append_assoc (map f (take i l)) (f x ∷ []) (drop (suc i) old)) ∙ ap (λ (m : List B). m ++ drop (suc i) old) (sym tail) ∙ ap (λ (k : ℕ). map f (take k l) ++ drop k old) next

-- What follows from marks for places and neighbours.
use Rattle.std.proofs.Common.{◌≡◌, ◌≢◌, ◌⊎◌, ℕ, zero, suc, ◌+◌, ◌<◌, ◌≤◌, Bool, true, false, Option, Some, None, List, [], ◌∷◌, length, refl, sym, subst, ap, ◌∙◌, arith}
use Rattle.std.specs.Prelude.{slice_get}
use Rattle.std.proofs.lemmas.Option.{slice_get_within}
use Rattle.outcomes.proofs.Common.{End, Wiring, ports_of, far, Holds, IsClosed, place, Marked, plugged, end_at}
use Rattle.outcomes.specs.WaysUp.{Lowest}

-- marks rise with the ports
pub rises-to :
    (c : Wiring) (parent : ℕ → Option ℕ) (set root : ℕ) (order : List ℕ) (mark : ℕ → ℕ → ℕ) →
    Marked c parent set root order mark → (k p d n : ℕ) → Holds set k → n ≡ p + d →
    n ≤ length (ports_of c k) → mark k p ≤ mark k n
rises-to c parent set root order mark m k p zero n has e le = let same : n ≡ p = omega arith in omega (arith, ap (mark k) same)
rises-to c parent set root order mark m k p (suc d) n has e le =
    let last : ℕ = p + d in
    let next : last + 1 ≡ n = omega arith in
    omega (arith, rises-to c parent set root order mark m k p d last has refl (omega arith), m.rises k last has (omega (arith, le)), ap (mark k) next)

-- and stay where no child is on the way
pub level :
    (c : Wiring) (parent : ℕ → Option ℕ) (set root : ℕ) (order : List ℕ) (mark : ℕ → ℕ → ℕ) →
    Marked c parent set root order mark → (k p d n : ℕ) → Holds set k → n ≡ p + d →
    n ≤ length (ports_of c k) →
    ((q : ℕ) → p ≤ q → q < n → (far c (end_at k q) ≡ None) ⊎ (parent k ≡ Some q)) →
    mark k n ≡ mark k p
level c parent set root order mark m k p zero n has e le none = let same : n ≡ p = omega arith in ap (mark k) same
level c parent set root order mark m k p (suc d) n has e le none =
    let last : ℕ = p + d in
    let next : last + 1 ≡ n = omega arith in
    omega (arith, level c parent set root order mark m k p d last has refl (omega arith) (λ q low high. none q low (omega arith)), m.stays k last has (omega (arith, le)) (none last (omega arith) (omega arith)), ap (mark k) next)

-- a child comes before its parent
pub child-before :
    (c : Wiring) (parent : ℕ → Option ℕ) (set root : ℕ) (order : List ℕ) (mark : ℕ → ℕ → ℕ) →
    Marked c parent set root order mark → (k p : ℕ) (b : End) → Holds set k → far c (end_at k p)
    ≡ Some b → parent k ≢ Some p → place c mark b.node < place c mark k
child-before c parent set root order mark m k p b has j ne =
    let less : p < length (ports_of c k) = (plugged c (end_at k p) b j).port in
    let d : (d : ℕ) × (length (ports_of c k) ≡ (p + 1) + d) = rest-of (length (ports_of c k)) p less in
    omega (arith, m.leaves k p b has j ne, rises-to c parent set root order mark m k (p + 1) d.0 (length (ports_of c k)) has d.1 (omega arith))
  where
    rest-of : (n p : ℕ) → p < n → (d : ℕ) × (n ≡ (p + 1) + d)
    rest-of zero p less = absurd (omega (arith, less))
    rest-of (suc n) zero less = (n, omega arith)
    rest-of (suc n) (suc p) less = let r = rest-of n p (omega (arith, less)) in (r.0, omega (arith, r.1))

-- no place is shared
pub places-differ :
    (c : Wiring) (parent : ℕ → Option ℕ) (set root : ℕ) (order : List ℕ) (mark : ℕ → ℕ → ℕ) →
    Marked c parent set root order mark → (j k : ℕ) → Holds set j → Holds set k →
    place c mark j ≡ place c mark k → j ≡ k
places-differ c parent set root order mark m j k hj hk e = same j k (sym (m.at j hj) ∙ ap (slice_get order) e ∙ m.at k hk)
  where
    same : (j k : ℕ) → Some j ≡ Some k → j ≡ k
    same j k e = cc

-- ---- the first of some nodes

record First (member : ℕ → Bool) (xs : List ℕ) : Type 0 where
  pub index : ℕ
  pub node : ℕ
  pub at : slice_get xs index ≡ Some node
  pub is : member node ≡ true
  pub none : (j y : ℕ) → j < index → slice_get xs j ≡ Some y → member y ≡ false

shifted :
    (member : ℕ → Bool) (x : ℕ) (xs : List ℕ) → member x ≡ false → First member xs →
    First member (x ∷ xs)
shifted member x xs out f = record { index = suc f.index; node = f.node; at = f.at; is = f.is; none = none }
  where
    none : (j y : ℕ) → j < suc f.index → slice_get (x ∷ xs) j ≡ Some y → member y ≡ false
    none zero y less e = let same : x ≡ y = cc in subst (λ (n : ℕ). member n ≡ false) same out
    none (suc j) y less e = f.none j y (omega (arith, less)) e

first-member :
    (member : ℕ → Bool) (xs : List ℕ) (i k : ℕ) → slice_get xs i ≡ Some k → member k ≡ true →
    First member xs
first-member member [] i k e is = absurd cc
first-member member (x ∷ xs) i k e is = go (member x) refl i e (λ i e. first-member member xs i k e is)
  where
    go :
        (b : Bool) → member x ≡ b → (i : ℕ) → slice_get (x ∷ xs) i ≡ Some k →
        ((i : ℕ) → slice_get xs i ≡ Some k → First member xs) → First member (x ∷ xs)
    go true t i e later = record { index = 0; node = x; at = refl; is = t; none = λ j y less f. absurd (omega (arith, less)) }
    go false t zero e later = let same : x ≡ k = cc in absurd cc
    go false t (suc i) e later = shifted member x xs t (later i e)

pub lowest :
    (c : Wiring) (parent : ℕ → Option ℕ) (set root : ℕ) (order : List ℕ) (mark : ℕ → ℕ → ℕ) →
    IsClosed c set → Marked c parent set root order mark → (member : ℕ → Bool) (k : ℕ) →
    Holds set k → member k ≡ true → Lowest c parent set member
lowest c parent set root order mark closed m member k has is =
    let first : First member order = first-member member order (place c mark k) k (m.at k has) is in
    let less : first.index < length order = slice_get_within order first.index first.node first.at in
    let found = m.covers first.index less in
    let same : found.0 ≡ first.node = one found.0 first.node (sym (m.at found.0 found.1) ∙ ap (slice_get order) found.2 ∙ first.at) in
    let in-set : Holds set first.node = subst (λ (n : ℕ). Holds set n) same found.1 in
    let here : place c mark first.node ≡ first.index = subst (λ (n : ℕ). place c mark n ≡ first.index) same found.2 in
    record {
      node = first.node;
      in_set = in-set;
      is = first.is;
      others = λ p b j ne. first.none (place c mark b.node) b.node (omega (arith, here, child-before c parent set root order mark m first.node p b in-set j ne)) (m.at b.node (closed (end_at first.node p) b j in-set));
    }
  where
    one : (j k : ℕ) → Some j ≡ Some k → j ≡ k
    one j k e = cc

-- The walk begins at the furthest start, and of equals at the first.
use Rattle.std.proofs.Common.{◌≡◌, ◌∙◌, ℕ, zero, suc, ◌<◌, ◌≤◌, min, ◌⊎◌, inl, inr, ⊎_elim, Bool, true, false, List, [], length, refl, sym, subst, ap, arith, eqb-true}
use Rattle.std.specs.Prelude.{nat_lt, ◌==◌, if◌then◌else◌}
use Rattle.std.proofs.lemmas.Bool.{cases_lt}
use Rattle.std.proofs.lemmas.Bool.Decides.{nat_tests}
use Rattle.std.proofs.lemmas.List.{nil_from_length}
use Rattle.topology_stack.specs.Tree.{Tree, walk}
use Rattle.topology_stack.proofs.Lemmas.{some_node}
use Rattle.view_text.specs.declared.cable.Cable.{Cable}
use Rattle.view_text.specs.Cable.{cables}
use Rattle.bus_diff.specs.declared.pair.Pair.{Pair}
use Rattle.bus_diff.specs.Along.{ways, reached, longer, best_with, best_of, by_new_id, matched, reached_from, IsThere, IsBefore, IsFurthest, EachWalkBeginsFurthest}
use Rattle.bus_diff.proofs.Room.{reached_few}

-- `best` is the longest list that is reached from these starts, and the first of those
record IsBest (from : Pair → List Pair) (tried : Pair → Type 0) (best : List Pair) : Type 0 where
  most : (p : Pair) → tried p → length (from p) ≤ length best
  found : (best ≡ []) ⊎ ((start : Pair) × tried start × (best ≡ from start)
      × ((p : Pair) → tried p → IsBefore p start → length (from p) < length best))

not_both : (p q : Pair) → IsBefore p q → IsBefore q p → ⊥
not_both p q a b = ⊎_elim
    (λ (x : p.old < q.old). ⊎_elim
    (λ (y : q.old < p.old). omega (arith, x, y))
    (λ (y : (q.old ≡ p.old) × (q.new < p.new)). omega (arith, x, y.0))
    b)
    (λ (x : (p.old ≡ q.old) × (p.new < q.new)). ⊎_elim
    (λ (y : q.old < p.old). omega (arith, x.0, y))
    (λ (y : (q.old ≡ p.old) × (q.new < p.new)). omega (arith, x.1, y.1))
    b)
    a

best_kept : (from : Pair → List Pair) (B C : Pair → Type 0) (x : Pair) (best : List Pair) →
    ((p : Pair) → C p → B p ⊎ (p ≡ x)) → ((p : Pair) → B p → C p) → ((p : Pair) → B p → IsBefore p x) →
    length (from x) ≤ length best → IsBest from B best → IsBest from C best
best_kept from B C x best cases more last few b = record {
  most = λ p c. ⊎_elim
      (λ (old : B p). b.most p old)
      (λ (is : p ≡ x). subst (λ (q : Pair). length (from q) ≤ length best) (sym is) few)
      (cases p c);
  found = ⊎_elim
      (λ (none : best ≡ []). inl none)
      (λ (f : (start : Pair) × B start × (best ≡ from start) × ((p : Pair) → B p → IsBefore p start → length (from p) < length best)).
      inr (
        f.0,
        more f.0 f.1,
        f.2,
        λ p c before. ⊎_elim
            (λ (old : B p). f.3 p old before)
            (λ (is : p ≡ x). absurd (not_both x f.0 (subst (λ (q : Pair). IsBefore q f.0) is before) (last f.0 f.1)))
            (cases p c),
      ))
      b.found;
}

best_taken : (from : Pair → List Pair) (B C : Pair → Type 0) (x : Pair) (best : List Pair) →
    ((p : Pair) → C p → B p ⊎ (p ≡ x)) → C x → length best < length (from x) → IsBest from B best →
    IsBest from C (from x)
best_taken from B C x best cases here lt b = record {
  most = λ p c. ⊎_elim
      (λ (old : B p). let le : length (from p) ≤ length best = b.most p old in omega (arith, le, lt))
      (λ (is : p ≡ x). let e : length (from p) ≡ length (from x) = ap (λ (q : Pair). length (from q)) is in omega (arith, e))
      (cases p c);
  found = inr (
    x,
    here,
    refl,
    λ p c before. ⊎_elim
        (λ (old : B p). let le : length (from p) ≤ length best = b.most p old in omega (arith, le, lt))
        (λ (is : p ≡ x). let e : IsBefore x x = subst (λ (q : Pair). IsBefore q x) is before in absurd (not_both x x e e))
        (cases p c),
  );
}

best_more : (from : Pair → List Pair) (B C : Pair → Type 0) (x : Pair) (full : ℕ) (best : List Pair) →
    ((p : Pair) → C p → B p ⊎ (p ≡ x)) → ((p : Pair) → B p → C p) → C x → ((p : Pair) → B p → IsBefore p x) →
    length (from x) ≤ full → IsBest from B best →
    IsBest from C (if length best == full then best else longer best (from x))
best_more from B C x full best cases more here last few b = go (length best == full) refl
  where
    choose : (v : Bool) → nat_lt (length best) (length (from x)) ≡ v → IsBest from C (if v then from x else best)
    choose true e =
        let lt : length best < length (from x) = grind (arith, nat_tests, e) in
        best_taken from B C x best cases here lt b
    choose false e =
        let le : length (from x) ≤ length best = grind (arith, nat_tests, e) in
        best_kept from B C x best cases more last le b

    go : (v : Bool) → (length best == full) ≡ v → IsBest from C (if v then best else longer best (from x))
    go true e =
        let is : length best ≡ full = eqb-true _ _ e in
        best_kept from B C x best cases more last (omega (arith, few, is)) b
    go false e = choose (nat_lt (length best) (length (from x))) refl

best_same : (from : Pair → List Pair) (B C : Pair → Type 0) (best : List Pair) →
    ((p : Pair) → C p → B p) → ((p : Pair) → B p → C p) → IsBest from B best → IsBest from C best
best_same from B C best back to b = record {
  most = λ p c. b.most p (back p c);
  found = ⊎_elim
      (λ (none : best ≡ []). inl none)
      (λ (f : (start : Pair) × B start × (best ≡ from start) × ((p : Pair) → B p → IsBefore p start → length (from p) < length best)).
      inr (f.0, to f.0 f.1, f.2, λ p c before. f.3 p (back p c) before))
      b.found;
}

-- ---- the loops

-- from these starts the walk was tried before it is from this one
abbrev IsTried : Tree → ℕ → ℕ → Pair → Type 0
IsTried u id other p = (p.new < length (walk u)) × ((p.old < id) ⊎ ((p.old ≡ id) × (p.new < other)))

pub pair_is : (p : Pair) (a b : ℕ) → p.old ≡ a → p.new ≡ b → p ≡ record { old = a; new = b }
pair_is p a b e f = rw (sym e, sym f) refl

tried_cases : (u : Tree) (id k : ℕ) (p : Pair) → IsTried u id (suc k) p →
    IsTried u id k p ⊎ (p ≡ record { old = id; new = k })
tried_cases u id k p c = ⊎_elim
    (λ (less : p.old < id). inl (c.0, inl less))
    (λ (same : (p.old ≡ id) × (p.new < suc k)). ⊎_elim
    (λ (less : p.new < k). inl (c.0, inr (same.0, less)))
    (λ (le : k ≤ p.new). let lt : p.new < suc k = same.1 in inr (pair_is p id k same.0 (omega (arith, le, lt))))
    (cases_lt p.new k))
    c.1

tried_more : (u : Tree) (id k : ℕ) (p : Pair) → IsTried u id k p → IsTried u id (suc k) p
tried_more u id k p c = (
  c.0,
  ⊎_elim
      (λ (less : p.old < id). inl less)
      (λ (same : (p.old ≡ id) × (p.new < k)). let lt : p.new < k = same.1 in inr (same.0, omega (arith, lt)))
      c.1,
)

tried_row : (t u : Tree) (far over : List Cable) (id k : ℕ) (best : List Pair) → k ≤ length (walk u) →
    IsBest (reached t u far over) (IsTried u id 0) best →
    IsBest (reached t u far over) (IsTried u id k) (best_with t u far over best id k)
tried_row t u far over id zero best le b = b
tried_row t u far over id (suc k) best le b =
    let x : Pair = record { old = id; new = k } in
    let lt : k < length (walk u) = omega (arith, le) in
    let here : k < suc k = omega arith in
    best_more (reached t u far over) (IsTried u id k) (IsTried u id (suc k)) x (min (length (walk t)) (length (walk u)))
    (best_with t u far over best id k) (tried_cases u id k) (tried_more u id k) (lt, inr (refl, here))
    (λ p c. c.1) (reached_few t u far over x) (tried_row t u far over id k best (omega (arith, le)) b)

next_back : (u : Tree) (id : ℕ) (p : Pair) → IsTried u (suc id) 0 p → IsTried u id (length (walk u)) p
next_back u id p c = (
  c.0,
  ⊎_elim
      (λ (less : p.old < suc id). ⊎_elim
      (λ (lt : p.old < id). inl lt)
      (λ (le : id ≤ p.old). inr (omega (arith, less, le), c.0))
      (cases_lt p.old id))
      (λ (none : (p.old ≡ suc id) × (p.new < 0)). let lt : p.new < 0 = none.1 in absurd (omega (arith, lt)))
      c.1,
)

next_to : (u : Tree) (id : ℕ) (p : Pair) → IsTried u id (length (walk u)) p → IsTried u (suc id) 0 p
next_to u id p c = (
  c.0,
  ⊎_elim
      (λ (less : p.old < id). inl (omega (arith, less)))
      (λ (same : (p.old ≡ id) × (p.new < length (walk u))). let e : p.old ≡ id = same.0 in inl (omega (arith, e)))
      c.1,
)

tried_all : (t u : Tree) (far over : List Cable) (n : ℕ) →
    IsBest (reached t u far over) (IsTried u n 0) (best_of t u far over n)
tried_all t u far over zero = record {
  most = λ p c. ⊎_elim
      (λ (less : p.old < 0). absurd (omega (arith, less)))
      (λ (none : (p.old ≡ 0) × (p.new < 0)). let lt : p.new < 0 = none.1 in absurd (omega (arith, lt)))
      c.1;
  found = inl refl;
}
tried_all t u far over (suc id) =
    best_same (reached t u far over) (IsTried u id (length (walk u))) (IsTried u (suc id) 0) (best_of t u far over (suc id))
    (next_back u id) (next_to u id)
    (tried_row t u far over id (length (walk u)) (best_of t u far over id) (omega arith) (tried_all t u far over id))

-- ---- the law

there_tried : (t u : Tree) (p : Pair) → IsThere t u p → IsTried u (length (walk t)) 0 p
there_tried t u p there = (there.1, inl there.0)

tried_there : (t u : Tree) (p : Pair) → IsTried u (length (walk t)) 0 p → IsThere t u p
tried_there t u p c = (
  ⊎_elim
      (λ (less : p.old < length (walk t)). less)
      (λ (none : (p.old ≡ length (walk t)) × (p.new < 0)). let lt : p.new < 0 = none.1 in absurd (omega (arith, lt)))
      c.1,
  c.0,
)

abbrev HasStart : Tree → Tree → List Pair → Type 0
HasStart t u best = (start : Pair) × IsFurthest t u start × (best ≡ reached_from t u start)

nothing_found : (t u : Tree) (best : List Pair) → best ≡ [] →
    ((p : Pair) → IsThere t u p → length (reached_from t u p) ≤ length best) → HasStart t u best
nothing_found t u best none most =
    let start : Pair = record { old = 0; new = 0 } in
    let here : IsThere t u start = (some_node t, some_node u) in
    let zero_long : length best ≡ 0 = ap (λ (ps : List Pair). length ps) none in
    let le : length (reached_from t u start) ≤ length best = most start here in (
      start,
      record {
        there = here;
        most = λ p there. let few : length (reached_from t u p) ≤ length best = most p there in omega (arith, few, zero_long);
        first = λ p there before. ⊎_elim
            (λ (less : p.old < 0). absurd (omega (arith, less)))
            (λ (x : (p.old ≡ 0) × (p.new < 0)). let lt : p.new < 0 = x.1 in absurd (omega (arith, lt)))
            before;
      },
      none ∙ sym (nil_from_length (reached_from t u start) (omega (arith, le, zero_long))),
    )

has_start : (t u : Tree) (best : List Pair) →
    IsBest (reached t u (cables u) (ways (cables t))) (IsTried u (length (walk t)) 0) best → HasStart t u best
has_start t u best b = ⊎_elim
    (λ (none : best ≡ []). nothing_found t u best none (λ p there. b.most p (there_tried t u p there)))
    (λ (f : (start : Pair) × IsTried u (length (walk t)) 0 start × (best ≡ reached_from t u start)
    × ((p : Pair) → IsTried u (length (walk t)) 0 p → IsBefore p start → length (reached_from t u p) < length best)).
    let long : length best ≡ length (reached_from t u f.0) = ap (λ (ps : List Pair). length ps) f.2 in (
      f.0,
      record {
        there = tried_there t u f.0 f.1;
        most = λ p there. let le : length (reached_from t u p) ≤ length best = b.most p (there_tried t u p there) in omega (arith, le, long);
        first = λ p there before. let lt : length (reached_from t u p) < length best = f.3 p (there_tried t u p there) before in omega (arith, lt, long);
      },
      f.2,
    ))
    b.found

pub begins_furthest : EachWalkBeginsFurthest
unfolding matched
begins_furthest t u =
    let h = has_start t u (best_of t u (cables u) (ways (cables t)) (length (walk t))) (tried_all t u (cables u) (ways (cables t)) (length (walk t))) in
    (h.0, h.1, ap (λ (ps : List Pair). by_new_id ps (length (walk u))) h.2)

-- What is reached along ports is reached by steps.
use Rattle.std.proofs.Common.{◌≡◌, ◌∙◌, ◌<◌, ◌⊎◌, inl, inr, ⊎_elim, Bool, true, false, Option, Some, None, List, [], ◌∷◌, ◌++◌, map, reverse, refl, sym, subst, arith, eq-eqb, eqb-true}
use Rattle.std.specs.Prelude.{Contains, find, ◌==◌, ◌||◌, ◌&&◌, if◌then◌else◌}
use Rattle.std.proofs.lemmas.List.Elements.{Contains-append_cases, Contains-append_left, Contains-append_right, Contains-push, Contains-push_cases}
use Rattle.std.proofs.lemmas.List.Sorted.{Contains-permutation, IsPermutation-sym, IsPermutation-reverse}
use Rattle.std.proofs.lemmas.Bool.{and_parts}
use Rattle.topology_stack.specs.Tree.{Tree}
use Rattle.view_text.specs.declared.cable.Cable.{Cable}
use Rattle.view_text.specs.Cable.{cables}
use Rattle.bus_diff.specs.declared.pair.Pair.{Pair}
use Rattle.bus_diff.specs.Along.{may_be_one, with_pair, pair_of, turned, leads_so, other_end, led_to, with_led, stepped, walked, ways, IsToldOf, IsStep, IsReachedBySteps, at_start, by_step, EachPairIsReached}

pub none_there : {X : Type 0} (x : X) → Contains [] x → ⊥
none_there x there = let lt : there.0 < 0 = there.1 in omega (arith, lt)

pub first_or_later : {X : Type 0} (y : X) (ys : List X) (x : X) → Contains (y ∷ ys) x → (y ≡ x) ⊎ Contains ys x
first_or_later y ys x there = ⊎_elim
    (λ (here : Contains (y ∷ []) x). ⊎_elim
    (λ (nil : Contains [] x). absurd (none_there x nil))
    (λ (is : y ≡ x). inl is)
    (Contains-push_cases [] y x here))
    (λ (later : Contains ys x). inr later)
    (Contains-append_cases (y ∷ []) ys x there)

pub found_so : {X : Type 0} (test : X → Bool) (xs : List X) (x : X) → find test xs ≡ Some x →
    Contains xs x × (test x ≡ true)
found_so test [] x e = absurd cc
found_so {X} test (y ∷ ys) x e = go (test y) refl e (λ h. found_so test ys x h)
  where
    go : (b : Bool) → test y ≡ b → (if b then Some y else find test ys) ≡ Some x →
        (find test ys ≡ Some x → Contains ys x × (test x ≡ true)) → Contains (y ∷ ys) x × (test x ≡ true)
    go true t f later =
        let is : y ≡ x = cc in
        (subst (λ (z : X). Contains (y ∷ ys) z) is (Contains-append_left (y ∷ []) ys y (Contains-push [] y)), subst (λ (z : X). test z ≡ true) is t)
    go false t f later = let l = later f in (Contains-append_right (y ∷ []) ys x l.0, l.1)

pub or_cases : (a b : Bool) → (a || b) ≡ true → (a ≡ true) ⊎ (b ≡ true)
or_cases true b e = inl refl
or_cases false b e = inr e

-- ---- the ways are cables of the bus

told_turned : (cs : List Cable) (c : Cable) → Contains (map turned cs) c → Contains cs (turned c)
told_turned [] c there = absurd (none_there c there)
told_turned (d ∷ cs) c there = ⊎_elim
    (λ (is : turned d ≡ c). subst (λ (x : Cable). Contains (d ∷ cs) (turned x)) is (Contains-append_left (d ∷ []) cs d (Contains-push [] d)))
    (λ (later : Contains (map turned cs) c). Contains-append_right (d ∷ []) cs (turned c) (told_turned cs c later))
    (first_or_later (turned d) (map turned cs) c there)

told_back : (cs : List Cable) (c : Cable) → Contains (reverse cs) c → Contains cs c
told_back cs c there =
    Contains-permutation (reverse cs) cs c (IsPermutation-sym cs (reverse cs) (IsPermutation-reverse cs)) there

told_ways : (cs : List Cable) (c : Cable) → Contains (ways cs) c → IsToldOf cs c
told_ways cs c there = ⊎_elim
    (λ (up : Contains (map turned cs) c). inr (told_turned cs c up))
    (λ (down : Contains (reverse cs) c). inl (told_back cs c down))
    (Contains-append_cases (map turned cs) (reverse cs) c there)

-- ---- a step

step_along : (t u : Tree) (p : Pair) (c d : Cable) → IsToldOf (cables t) c → Contains (cables u) d →
    p.old ≡ c.parent → leads_so c p.new d ≡ true →
    IsStep t u p (record { old = c.child; new = if d.parent == p.new then d.child else d.parent })
step_along t u p c d told there from leads = ⊎_elim
    (λ (down : ((d.parent == p.new) && ((d.port == c.port) && (d.child_port == c.child_port))) ≡ true).
    let ports = (d.port == c.port) && (d.child_port == c.child_port) in
    let parent : d.parent ≡ p.new = eqb-true _ _ ((and_parts (d.parent == p.new) ports down).0) in
    let same : ports ≡ true = (and_parts (d.parent == p.new) ports down).1 in
    record {
      here = c;
      there = d;
      is_old = told;
      is_new = inl there;
      from_old = sym from;
      from_new = parent;
      to_old = refl;
      to_new = rw (eq-eqb d.parent p.new parent) refl;
      out = sym (eqb-true _ _ ((and_parts (d.port == c.port) (d.child_port == c.child_port) same).0));
      into = sym (eqb-true _ _ ((and_parts (d.port == c.port) (d.child_port == c.child_port) same).1));
    })
    (λ (up : ((d.child == p.new) && ((d.child_port == c.port) && (d.port == c.child_port))) ≡ true).
    let ports = (d.child_port == c.port) && (d.port == c.child_port) in
    let child : d.child ≡ p.new = eqb-true _ _ ((and_parts (d.child == p.new) ports up).0) in
    let same : ports ≡ true = (and_parts (d.child == p.new) ports up).1 in
    record {
      here = c;
      there = turned d;
      is_old = told;
      is_new = inr there;
      from_old = sym from;
      from_new = child;
      to_old = refl;
      to_new = other child (d.parent == p.new) refl;
      out = sym (eqb-true _ _ ((and_parts (d.child_port == c.port) (d.port == c.child_port) same).0));
      into = sym (eqb-true _ _ ((and_parts (d.child_port == c.port) (d.port == c.child_port) same).1));
    })
    (or_cases _ _ leads)
  where
    other : d.child ≡ p.new → (v : Bool) → (d.parent == p.new) ≡ v →
        d.parent ≡ (if v then d.child else d.parent)
    other child true e = eqb-true _ _ e ∙ sym child
    other child false e = refl

with_reached : (t u : Tree) (start : Pair) (ps : List Pair) (x : Pair) →
    ((q : Pair) → Contains ps q → IsReachedBySteps t u start q) → IsReachedBySteps t u start x →
    (q : Pair) → Contains (with_pair t u ps x) q → IsReachedBySteps t u start q
with_reached t u start ps x all one q there = go (may_be_one t u ps x) there
  where
    go : (b : Bool) → Contains (if b then ps ++ x ∷ [] else ps) q → IsReachedBySteps t u start q
    go true h = ⊎_elim
        (λ (old : Contains ps q). all q old)
        (λ (is : x ≡ q). subst (λ (y : Pair). IsReachedBySteps t u start y) is one)
        (Contains-push_cases ps x q h)
    go false h = all q h

stepped_reached : (t u : Tree) (start : Pair) (ps : List Pair) (c : Cable) → IsToldOf (cables t) c →
    ((q : Pair) → Contains ps q → IsReachedBySteps t u start q) →
    (q : Pair) → Contains (stepped t u (cables u) ps c) q → IsReachedBySteps t u start q
stepped_reached t u start ps c told all q there = from (pair_of ps c.parent) refl there
  where
    to : (p : Pair) → pair_of ps c.parent ≡ Some p → (d : Option Cable) →
        find (λ d. leads_so c p.new d) (cables u) ≡ d →
        Contains (with_led t u ps c.child (other_end p.new d)) q → IsReachedBySteps t u start q
    to p e None f h = all q h
    to p e (Some d) f h =
        let pair = found_so (λ (p : Pair). p.old == c.parent) ps p e in
        let cable = found_so (λ (d : Cable). leads_so c p.new d) (cables u) d f in
        let x : Pair = record { old = c.child; new = if d.parent == p.new then d.child else d.parent } in
        let step : IsStep t u p x = step_along t u p c d told cable.0 (eqb-true _ _ pair.1) cable.1 in
        with_reached t u start ps x all (by_step p x (all p pair.0) step) q h

    from : (p : Option Pair) → pair_of ps c.parent ≡ p →
        Contains (with_led t u ps c.child (led_to (cables u) c p)) q → IsReachedBySteps t u start q
    from None e h = all q h
    from (Some p) e h = to p e (find (λ d. leads_so c p.new d) (cables u)) refl h

walked_reached : (t u : Tree) (start : Pair) (ps : List Pair) (cs : List Cable) →
    ((c : Cable) → Contains cs c → IsToldOf (cables t) c) →
    ((q : Pair) → Contains ps q → IsReachedBySteps t u start q) →
    (q : Pair) → Contains (walked t u (cables u) ps cs) q → IsReachedBySteps t u start q
walked_reached t u start ps [] told all q there = all q there
walked_reached t u start ps (c ∷ cs) told all q there =
    let here : Contains (c ∷ cs) c = Contains-append_left (c ∷ []) cs c (Contains-push [] c) in
    walked_reached t u start (stepped t u (cables u) ps c) cs
    (λ d later. told d (Contains-append_right (c ∷ []) cs d later))
    (stepped_reached t u start ps c (told c here) all) q there

pub each_reached : EachPairIsReached
each_reached t u start q there =
    walked_reached t u start (with_pair t u [] start) (ways (cables t)) (told_ways (cables t))
    (with_reached t u start [] start (λ p none. absurd (none_there p none)) at_start) q there

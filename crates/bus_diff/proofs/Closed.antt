-- No step leads on from what is reached.
use Rattle.std.proofs.Common.{◌≡◌, ◌∙◌, ℕ, ◌+◌, ◌-◌, ◌<◌, ◌≤◌, ◌⊎◌, inl, inr, ⊎_elim, Bool, true, false, Option, Some, None, List, [], ◌∷◌, ◌++◌, map, reverse, length, refl, sym, ap, subst, arith, eq-eqb, eqb-true}
use Rattle.std.specs.Prelude.{Contains, slice_get, find, not, ◌==◌, ◌||◌, ◌&&◌, if◌then◌else◌}
use Rattle.std.specs.List.{list_any}
use Rattle.std.proofs.lemmas.List.{reverse-append}
use Rattle.std.proofs.lemmas.List.Elements.{Contains-append_left, Contains-append_right, Contains-push, Contains-push_cases}
use Rattle.topology_stack.specs.Tree.{Tree, walk, IsBusTree}
use Rattle.view_text.specs.declared.cable.Cable.{Cable}
use Rattle.view_text.specs.Cable.{cables, times, EachNodeHangsOnOneCable}
use Rattle.view_text.specs.CableEnds.{CablesAreOfTheTree}
use Rattle.bus_diff.specs.declared.pair.Pair.{Pair}
use Rattle.bus_diff.specs.Matching.{IsMatching, stays, stood}
use Rattle.bus_diff.specs.Along.{ports_of, is_same_count, may_be_one, with_pair, pair_of, turned, led_to, with_led, stepped, walked, ways, reached_from, IsToldOf, IsStep, EachStepIsTaken}
use Rattle.bus_diff.proofs.Matched.{matching_none, matching_with}
use Rattle.bus_diff.proofs.Reached.{walked_keeps}
use Rattle.bus_diff.proofs.Room.{any_push}
use Rattle.bus_diff.proofs.Steps.{none_there, first_or_later, found_so}
use Rattle.bus_diff.proofs.Furthest.{pair_is}
use Rattle.bus_diff.proofs.Rising.{Rising, cables_rising}
use Rattle.bus_diff.proofs.Walked.{find_some, any_in, HasCables, has_cables, led_so, walked-append}

-- ---- nodes that can't be one

abbrev Shut : Tree → Tree → List Pair → Pair → Type 0
Shut t u ps x = may_be_one t u ps x ≡ false

more_shut : (a m b n s : Bool) → (not a && (not b && s)) ≡ false → (not (a || m) && (not (b || n) && s)) ≡ false
more_shut true m b n s e = refl
more_shut false true b n s e = refl
more_shut false false true n s e = refl
more_shut false false false true s e = refl
more_shut false false false false s e = e

shut_push : (t u : Tree) (ps : List Pair) (x y : Pair) → Shut t u ps x → Shut t u (ps ++ y ∷ []) x
shut_push t u ps x y shut =
    let same = is_same_count (ports_of (slice_get (walk t) x.old)) (ports_of (slice_get (walk u) x.new)) in
    let old : stays (ps ++ y ∷ []) x.old ≡ (stays ps x.old || (y.old == x.old)) = any_push (λ p. p.old) ps y x.old in
    let new : stood (ps ++ y ∷ []) x.new ≡ (stood ps x.new || (y.new == x.new)) = any_push (λ p. p.new) ps y x.new in
    ap (λ (a : Bool). not a && (not (stood (ps ++ y ∷ []) x.new) && same)) old
    ∙ ap (λ (b : Bool). not (stays ps x.old || (y.old == x.old)) && (not b && same)) new
    ∙ more_shut (stays ps x.old) (y.old == x.old) (stood ps x.new) (y.new == x.new) same shut

shut_with : (t u : Tree) (ps : List Pair) (x y : Pair) → Shut t u ps x → Shut t u (with_pair t u ps y) x
shut_with t u ps x y shut = go (may_be_one t u ps y)
  where
    go : (b : Bool) → Shut t u (if b then ps ++ y ∷ [] else ps) x
    go true = shut_push t u ps x y shut
    go false = shut

shut_stays : (t u : Tree) (ps : List Pair) (x p : Pair) → Contains ps p → p.old ≡ x.old → Shut t u ps x
shut_stays t u ps x p here same =
    let same_count = is_same_count (ports_of (slice_get (walk t) x.old)) (ports_of (slice_get (walk u) x.new)) in
    ap (λ (a : Bool). not a && (not (stood ps x.new) && same_count)) (any_in (λ (q : Pair). q.old == x.old) ps p here (eq-eqb p.old x.old same))

shut_itself : (t u : Tree) (ps : List Pair) (x : Pair) → Shut t u (with_pair t u ps x) x
shut_itself t u ps x = go (may_be_one t u ps x) refl
  where
    go : (b : Bool) → may_be_one t u ps x ≡ b → Shut t u (if b then ps ++ x ∷ [] else ps) x
    go true e = shut_stays t u (ps ++ x ∷ []) x x (Contains-push ps x) refl
    go false e = e

-- ---- a step

with_keeps : (t u : Tree) (p : Pair) (ps : List Pair) (x : Pair) → Contains ps p → Contains (with_pair t u ps x) p
with_keeps t u p ps x here = go (may_be_one t u ps x)
  where
    go : (b : Bool) → Contains (if b then ps ++ x ∷ [] else ps) p
    go true = Contains-append_left ps (x ∷ []) p here
    go false = here

step_keeps : (t u : Tree) (ps : List Pair) (c : Cable) (p : Pair) → Contains ps p →
    Contains (stepped t u (cables u) ps c) p
step_keeps t u ps c p here =
    walked_keeps t u (λ (qs : List Pair). Contains qs p) (λ qs x. with_keeps t u p qs x) (cables u) ps (c ∷ []) here

step_matching : (t u : Tree) (ps : List Pair) (c : Cable) → IsMatching t u ps →
    IsMatching t u (stepped t u (cables u) ps c)
step_matching t u ps c m = walked_keeps t u (IsMatching t u) (matching_with t u) (cables u) ps (c ∷ []) m

step_shut : (t u : Tree) (ps : List Pair) (c : Cable) (x : Pair) → Shut t u ps x →
    Shut t u (stepped t u (cables u) ps c) x
step_shut t u ps c x shut =
    walked_keeps t u (λ (qs : List Pair). Shut t u qs x) (λ qs y. shut_with t u qs x y) (cables u) ps (c ∷ []) shut

-- a pair behind a step was there, or it is of the node to which the cable leads from a pair
abbrev IsNew : List Pair → Cable → Pair → Type 0
IsNew ps c p = (p.old ≡ c.child) × ((r : Pair) × Contains ps r × (r.old ≡ c.parent))

new_or_old : (t u : Tree) (ps : List Pair) (c : Cable) (p : Pair) → Contains (stepped t u (cables u) ps c) p →
    Contains ps p ⊎ IsNew ps c p
new_or_old t u ps c p here = from (pair_of ps c.parent) refl here
  where
    pushed : (r : Pair) → Contains ps r → r.old ≡ c.parent → (x : Pair) → x.old ≡ c.child → (b : Bool) →
        Contains (if b then ps ++ x ∷ [] else ps) p → Contains ps p ⊎ IsNew ps c p
    pushed r there old x is true h = ⊎_elim
        (λ (was : Contains ps p). inl was)
        (λ (same : x ≡ p). inr (ap (λ (q : Pair). q.old) (sym same) ∙ is, (r, there, old)))
        (Contains-push_cases ps x p h)
    pushed r there old x is false h = inl h

    to : (r : Pair) → Contains ps r → r.old ≡ c.parent → (o : Option ℕ) →
        Contains (with_led t u ps c.child o) p → Contains ps p ⊎ IsNew ps c p
    to r there old None h = inl h
    to r there old (Some k) h =
        pushed r there old (record { old = c.child; new = k }) refl (may_be_one t u ps (record { old = c.child; new = k })) h

    from : (o : Option Pair) → pair_of ps c.parent ≡ o →
        Contains (with_led t u ps c.child (led_to (cables u) c o)) p → Contains ps p ⊎ IsNew ps c p
    from None e h = inl h
    from (Some r) e h =
        let so = found_so (λ (q : Pair). q.old == c.parent) ps r e in
        to r so.0 (eqb-true _ _ so.1) (led_to (cables u) c (Some r)) h

-- no cable like this one leads from a pair to two nodes that may be one
abbrev Done : Tree → Tree → List Pair → Cable → Type 0
Done t u ps c =
    (p : Pair) (d : Cable) → Contains ps p → p.old ≡ c.parent → IsToldOf (cables u) d → d.port ≡ c.port →
    d.child_port ≡ c.child_port → p.new ≡ d.parent → Shut t u ps (record { old = c.child; new = d.child })

-- the pair of a node that is in one
one_pair : (t u : Tree) (ps : List Pair) (k : ℕ) (p : Pair) → IsMatching t u ps → Contains ps p → p.old ≡ k →
    pair_of ps k ≡ Some p
one_pair t u ps k p m here old =
    let found = find_some (λ (q : Pair). q.old == k) ps p here (eq-eqb p.old k old) in
    let so = found_so (λ (q : Pair). q.old == k) ps found.0 found.1 in
    let olds : found.0.old ≡ p.old = eqb-true _ _ so.1 ∙ sym old in
    let news : found.0.new ≡ p.new = m.old_once found.0 p so.0 here olds in
    let is : found.0 ≡ p = pair_is found.0 p.old p.new olds news in
    found.1 ∙ ap (λ (q : Pair). Some q) is

-- behind a step along it that is so
step_done : (t u : Tree) → HasCables u → (ps : List Pair) (c : Cable) → IsMatching t u ps → (c.child ≡ c.parent → ⊥) →
    Done t u (stepped t u (cables u) ps c) c
step_done t u g ps c m apart p d here old told port child_port new = ⊎_elim
    (λ (was : Contains ps p).
    let pair : pair_of ps c.parent ≡ Some p = one_pair t u ps c.parent p m was old in
    let led : led_to (cables u) c (pair_of ps c.parent) ≡ Some d.child =
    ap (led_to (cables u) c) pair ∙ led_so u g c d p told port child_port new in
    subst (λ (o : Option ℕ). Shut t u (with_led t u ps c.child o) (record { old = c.child; new = d.child })) (sym led)
    (shut_itself t u ps (record { old = c.child; new = d.child })))
    (λ (more : IsNew ps c p). absurd (apart (sym more.0 ∙ old)))
    (new_or_old t u ps c p here)

-- and it stays so, if the step leads to no other node from which such a cable leads, or where that one is in a pair
done_stays : (t u : Tree) (ps : List Pair) (c e : Cable) → Done t u ps e →
    (c.child ≡ e.parent → (r : Pair) → Contains ps r → r.old ≡ c.parent → r.old ≡ e.child) →
    Done t u (stepped t u (cables u) ps c) e
done_stays t u ps c e done back p d here old told port child_port new = ⊎_elim
    (λ (was : Contains ps p). step_shut t u ps c (record { old = e.child; new = d.child }) (done p d was old told port child_port new))
    (λ (more : IsNew ps c p).
    let r = more.1.0 in
    shut_stays t u (stepped t u (cables u) ps c) (record { old = e.child; new = d.child }) r (step_keeps t u ps c r more.1.1)
    (back (sym more.0 ∙ old) r more.1.1 more.1.2))
    (new_or_old t u ps c p here)

-- ---- the order of cables

rising_least : (m : ℕ) (cs : List Cable) (e : Cable) → Rising m cs → Contains cs e → m ≤ e.parent
rising_least m [] e r here = absurd (none_there e here)
rising_least m (c ∷ cs) e r here = ⊎_elim
    (λ (is : c ≡ e). subst (λ (x : Cable). m ≤ x.parent) is r.0)
    (λ (later : Contains cs e).
    let least : c.parent ≤ e.parent = rising_least c.parent cs e r.1 later in
    let first : m ≤ c.parent = r.0 in omega (arith, least, first))
    (first_or_later c cs e here)

times_in : (k : ℕ) (cs : List Cable) (e : Cable) → Contains cs e → e.child ≡ k → 0 < times k cs
times_in k [] e here is = absurd (none_there e here)
times_in k (c ∷ cs) e here is = ⊎_elim
    (λ (same : c ≡ e).
    hit (c.child == k) (eq-eqb c.child k (ap (λ (x : Cable). x.child) same ∙ is)))
    (λ (later : Contains cs e). go (c.child == k) (times_in k cs e later is))
    (first_or_later c cs e here)
  where
    hit : (b : Bool) → b ≡ true → 0 < (if b then 1 else 0) + times k cs
    hit true f = omega arith
    hit false f = absurd cc

    go : (b : Bool) → 0 < times k cs → 0 < (if b then 1 else 0) + times k cs
    go true some = omega arith
    go false some = omega (arith, some)

-- one node hangs on one cable
one_of : (k : ℕ) (cs : List Cable) (d e : Cable) → times k cs ≤ 1 → Contains cs d → Contains cs e → d.child ≡ k →
    e.child ≡ k → d ≡ e
one_of k [] d e few a b x y = absurd (none_there d a)
one_of k (c ∷ cs) d e few a b x y = ⊎_elim
    (λ (is : c ≡ d). ⊎_elim
    (λ (same : c ≡ e). sym is ∙ same)
    (λ (later : Contains cs e). absurd (twice (ap (λ (z : Cable). z.child) is ∙ x) (times_in k cs e later y)))
    (first_or_later c cs e b))
    (λ (later : Contains cs d). ⊎_elim
    (λ (same : c ≡ e). absurd (twice (ap (λ (z : Cable). z.child) same ∙ y) (times_in k cs d later x)))
    (λ (both : Contains cs e). one_of k cs d e (fewer (c.child == k) few) later both x y)
    (first_or_later c cs e b))
    (first_or_later c cs d a)
  where
    twice : c.child ≡ k → 0 < times k cs → ⊥
    twice child some =
        let hit : (c.child == k) ≡ true = eq-eqb c.child k child in
        let many : 1 + times k cs ≤ 1 = subst (λ (b : Bool). (if b then 1 else 0) + times k cs ≤ 1) hit few in
        omega (arith, many, some)

    fewer : (b : Bool) → (if b then 1 else 0) + times k cs ≤ 1 → times k cs ≤ 1
    fewer true h = omega (arith, h)
    fewer false h = omega (arith, h)

-- ---- up

record Climbed (t u : Tree) (qs : List Pair) (Was : Cable → Type 0) (rest : List Cable) : Type 0 where
  matching : IsMatching t u qs
  was : (e : Cable) → Was e → Done t u qs (turned e)
  now : (e : Cable) → Contains rest e → Done t u qs (turned e)

climbed : (t u : Tree) → HasCables t → HasCables u → (rest : List Cable) (m : ℕ) (Was : Cable → Type 0) → Rising m rest →
    ((e : Cable) → Contains rest e → Contains (cables t) e) → ((e : Cable) → Was e → (e.child < e.parent) × (e.parent ≤ m)) →
    (ps : List Pair) → IsMatching t u ps → ((e : Cable) → Was e → Done t u ps (turned e)) →
    Climbed t u (walked t u (cables u) ps (map turned rest)) Was rest
climbed t u f g [] m Was rising some before ps matching done = record {
  matching = matching;
  was = done;
  now = λ e here. absurd (none_there e here);
}
climbed t u f g (c ∷ rest) m Was rising some before ps matching done =
    let here : Contains (cables t) c = some c (Contains-append_left (c ∷ []) rest c (Contains-push [] c)) in
    let low : c.child < c.parent = f.lower c here in
    let least : m ≤ c.parent = rising.0 in
    let qs = stepped t u (cables u) ps (turned c) in
    let mine : Done t u qs (turned c) = step_done t u g ps (turned c) matching (λ (same : c.parent ≡ c.child). omega (arith, same, low)) in
    let next : Climbed t u (walked t u (cables u) qs (map turned rest)) (λ (e : Cable). Was e ⊎ (e ≡ c)) rest =
    climbed t u f g rest c.parent (λ (e : Cable). Was e ⊎ (e ≡ c)) rising.1
    (λ e later. some e (Contains-append_right (c ∷ []) rest e later))
    (λ e either. ⊎_elim
    (λ (w : Was e). let b = before e w in let lt : e.child < e.parent = b.0 in let le : e.parent ≤ m = b.1 in (lt, omega (arith, le, least)))
    (λ (is : e ≡ c). subst (λ (x : Cable). (x.child < x.parent) × (x.parent ≤ c.parent)) (sym is) (low, omega arith))
    either)
    qs (step_matching t u ps (turned c) matching)
    (λ e either. ⊎_elim
    (λ (w : Was e).
    let b = before e w in
    let lt : e.child < e.parent = b.0 in
    let le : e.parent ≤ m = b.1 in
    done_stays t u ps (turned c) (turned e) (done e w) (λ (same : c.parent ≡ e.child) r there old. absurd (omega (arith, same, lt, le, least))))
    (λ (is : e ≡ c). subst (λ (x : Cable). Done t u qs (turned x)) (sym is) mine)
    either) in
    record {
      matching = next.matching;
      was = λ e w. next.was e (inl w);
      now = λ e there. ⊎_elim
          (λ (is : c ≡ e). next.was e (inr (sym is)))
          (λ (later : Contains rest e). next.now e later)
          (first_or_later c rest e there);
    }

-- ---- down

record Descended (t u : Tree) (qs : List Pair) (rest : List Cable) : Type 0 where
  matching : IsMatching t u qs
  up : (e : Cable) → Contains (cables t) e → Done t u qs (turned e)
  down : (e : Cable) → Contains rest e → Done t u qs e

descended : (t u : Tree) → HasCables t → HasCables u → ((k : ℕ) → k + 1 < length (walk t) → times k (cables t) ≡ 1) →
    (rest : List Cable) (m : ℕ) → Rising m rest → ((e : Cable) → Contains rest e → Contains (cables t) e) →
    (ps : List Pair) → IsMatching t u ps → ((e : Cable) → Contains (cables t) e → Done t u ps (turned e)) →
    Descended t u (walked t u (cables u) ps (reverse rest)) rest
descended t u f g one [] m rising some ps matching done = record {
  matching = matching;
  up = done;
  down = λ e here. absurd (none_there e here);
}
descended t u f g one (c ∷ rest) m rising some ps matching done =
    let here : Contains (cables t) c = some c (Contains-append_left (c ∷ []) rest c (Contains-push [] c)) in
    let low : c.child < c.parent = f.lower c here in
    let within : c.parent < length (walk t) = f.within c here in
    let qs = walked t u (cables u) ps (reverse rest) in
    let above = descended t u f g one rest c.parent rising.1 (λ e later. some e (Contains-append_right (c ∷ []) rest e later)) ps matching done in
    let next = stepped t u (cables u) qs c in
    let turned_round : walked t u (cables u) ps (reverse (c ∷ rest)) ≡ next =
    ap (λ (xs : List Cable). walked t u (cables u) ps xs) (reverse-append (c ∷ []) rest)
    ∙ walked-append t u (cables u) ps (reverse rest) (c ∷ []) in
    let down : Descended t u next (c ∷ rest) = record {
      matching = step_matching t u qs c above.matching;
      up = λ e there. done_stays t u qs c (turned e) (above.up e there)
          (λ (same : c.child ≡ e.child) r inside old.
          let once : times c.child (cables t) ≡ 1 = one c.child (omega (arith, low, within)) in
          let is : e ≡ c = one_of c.child (cables t) e c (omega (arith, once)) there here (sym same) refl in
          old ∙ ap (λ (x : Cable). x.parent) (sym is));
      down = λ e there. ⊎_elim
          (λ (is : c ≡ e). subst (λ (x : Cable). Done t u next x) is
          (step_done t u g qs c above.matching (λ (same : c.child ≡ c.parent). omega (arith, same, low))))
          (λ (later : Contains rest e).
          let least : c.parent ≤ e.parent = rising_least c.parent rest e rising.1 later in
          done_stays t u qs c e (above.down e later) (λ (same : c.child ≡ e.parent) r inside old. absurd (omega (arith, same, low, least))))
          (first_or_later c rest e there);
    } in
    subst (λ (x : List Pair). Descended t u x (c ∷ rest)) (sym turned_round) down

-- ---- all

walk_done : (t u : Tree) → HasCables t → HasCables u → ((k : ℕ) → k + 1 < length (walk t) → times k (cables t) ≡ 1) →
    (start : Pair) → Descended t u (reached_from t u start) (cables t)
walk_done t u f g one start =
    let begun = with_pair t u [] start in
    let top = climbed t u f g (cables t) 0 (λ (e : Cable). ⊥) (cables_rising t) (λ e here. here) (λ e no. absurd no)
    begun (matching_with t u [] start (matching_none t u)) (λ e no. absurd no) in
    let up = walked t u (cables u) begun (map turned (cables t)) in
    let down = descended t u f g one (cables t) 0 (cables_rising t) (λ e here. here) up top.matching top.now in
    subst (λ (x : List Pair). Descended t u x (cables t)) (sym (walked-append t u (cables u) begun (map turned (cables t)) (reverse (cables t)))) down

pub each_taken : CablesAreOfTheTree → EachNodeHangsOnOneCable → EachStepIsTaken
each_taken of_tree one t u start p q bus other here step =
    let f = has_cables of_tree one t bus in
    let g = has_cables of_tree one u other in
    let all = walk_done t u f g (one t) start in
    let c = step.here in
    let d = step.there in
    let done : Done t u (reached_from t u start) c = ⊎_elim
    (λ (down : Contains (cables t) c). all.down c down)
    (λ (up : Contains (cables t) (turned c)). all.up (turned c) up)
    step.is_old in
    let shut : Shut t u (reached_from t u start) (record { old = c.child; new = d.child }) =
    done p d here (sym step.from_old) step.is_new (sym step.out) (sym step.into) (sym step.from_new) in
    let is : q ≡ record { old = c.child; new = d.child } = pair_is q c.child d.child (sym step.to_old) (sym step.to_new) in
    subst (λ (x : Pair). Shut t u (reached_from t u start) x) (sym is) shut

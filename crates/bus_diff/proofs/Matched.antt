-- Matchings to which pairs are added.
use Rattle.std.proofs.Common.{◌≡◌, ◌∙◌, ℕ, ◌<◌, ⊎_elim, Bool, true, false, Option, Some, None, List, [], ◌∷◌, ◌++◌, refl, sym, subst, ap, arith, eq-eqb, eqb-true}
use Rattle.std.specs.Prelude.{Contains, slice_get, not, ◌==◌, ◌||◌, ◌&&◌, if◌then◌else◌}
use Rattle.std.specs.List.{list_any}
use Rattle.std.proofs.lemmas.List.Elements.{Contains-push_cases}
use Rattle.std.proofs.lemmas.Bool.{and_parts, not-true}
use Rattle.self_id.specs.Node.{Node}
use Rattle.topology_stack.specs.Tree.{Tree, walk}
use Rattle.bus_diff.specs.declared.pair.Pair.{Pair}
use Rattle.bus_diff.specs.Matching.{IsMatching, IsFit, HasPorts, port_count, stays, stood}
use Rattle.bus_diff.specs.Along.{ports_of, is_same_count, may_be_one, with_pair}
use Rattle.bus_diff.proofs.Adding.{front_cases}

or_left : (a b : Bool) → (a || b) ≡ false → a ≡ false
or_left true b e = absurd cc
or_left false b e = refl

or_right : (a b : Bool) → (a || b) ≡ false → b ≡ false
or_right true b e = absurd cc
or_right false b e = e

-- where no pair has this node in one bus, no pair has it
none_of : (of : Pair → ℕ) (ps : List Pair) (n : ℕ) → list_any (λ p. of p == n) ps ≡ false →
    (q : Pair) → Contains ps q → of q ≡ n → ⊥
none_of of [] n e q there same = let lt : there.0 < 0 = there.1 in omega (arith, lt)
none_of of (p ∷ ps) n e q there same = ⊎_elim
    (λ (is : p ≡ q).
    let id : of p ≡ n = ap of is ∙ same in
    let yes_it : (of p == n) ≡ true = eq-eqb (of p) n id in
    let not_it : (of p == n) ≡ false = or_left (of p == n) (list_any (λ p. of p == n) ps) e in
    absurd cc)
    (λ (later : Contains ps q). none_of of ps n (or_right (of p == n) (list_any (λ p. of p == n) ps) e) q later same)
    (front_cases p ps q there)

pub matching_none : (t u : Tree) → IsMatching t u []
matching_none t u = record {
  old_once = λ p q there. let lt : there.0 < 0 = there.1 in absurd (omega (arith, lt));
  new_once = λ p q there. let lt : there.0 < 0 = there.1 in absurd (omega (arith, lt));
  fit = λ p there. let lt : there.0 < 0 = there.1 in absurd (omega (arith, lt));
}

matching_push : (t u : Tree) (ps : List Pair) (x : Pair) → IsMatching t u ps →
    stays ps x.old ≡ false → stood ps x.new ≡ false → IsFit (walk t) (walk u) x →
    IsMatching t u (ps ++ x ∷ [])
matching_push t u ps x m free_old free_new fits = record {
  old_once = λ p q in_p in_q same. ⊎_elim
      (λ (a : Contains ps p). ⊎_elim
      (λ (b : Contains ps q). m.old_once p q a b same)
      (λ (is : x ≡ q). let e : p.old ≡ x.old = cc in absurd (none_of (λ p. p.old) ps x.old free_old p a e))
      (Contains-push_cases ps x q in_q))
      (λ (is : x ≡ p). ⊎_elim
      (λ (b : Contains ps q). let e : q.old ≡ x.old = cc in absurd (none_of (λ p. p.old) ps x.old free_old q b e))
      (λ (is_too : x ≡ q). let e : p.new ≡ q.new = cc in e)
      (Contains-push_cases ps x q in_q))
      (Contains-push_cases ps x p in_p);
  new_once = λ p q in_p in_q same. ⊎_elim
      (λ (a : Contains ps p). ⊎_elim
      (λ (b : Contains ps q). m.new_once p q a b same)
      (λ (is : x ≡ q). let e : p.new ≡ x.new = cc in absurd (none_of (λ p. p.new) ps x.new free_new p a e))
      (Contains-push_cases ps x q in_q))
      (λ (is : x ≡ p). ⊎_elim
      (λ (b : Contains ps q). let e : q.new ≡ x.new = cc in absurd (none_of (λ p. p.new) ps x.new free_new q b e))
      (λ (is_too : x ≡ q). let e : p.old ≡ q.old = cc in e)
      (Contains-push_cases ps x q in_q))
      (Contains-push_cases ps x p in_p);
  fit = λ p there. ⊎_elim
      (λ (a : Contains ps p). m.fit p a)
      (λ (is : x ≡ p). subst (IsFit (walk t) (walk u)) is fits)
      (Contains-push_cases ps x p there);
}

fits_so : (ns ms : List Node) (x : Pair) (a b : Option Node) → slice_get ns x.old ≡ a →
    slice_get ms x.new ≡ b → is_same_count (ports_of a) (ports_of b) ≡ true → IsFit ns ms x
fits_so ns ms x None b e f same = absurd cc
fits_so ns ms x (Some m) None e f same = absurd cc
fits_so ns ms x (Some m) (Some n) e f same =
    let here : HasPorts ns x.old (port_count m.ports) = rw e refl in
    let there : HasPorts ms x.new (port_count m.ports) = rw f (sym (eqb-true _ _ same)) in
    (port_count m.ports, here, there)

-- with a pair more, where it may be one
pub matching_with : (t u : Tree) (ps : List Pair) (x : Pair) → IsMatching t u ps →
    IsMatching t u (with_pair t u ps x)
matching_with t u ps x m = go (may_be_one t u ps x) refl
  where
    go : (b : Bool) → may_be_one t u ps x ≡ b → IsMatching t u (if b then ps ++ x ∷ [] else ps)
    go true e =
        let rest = not (stood ps x.new) && is_same_count (ports_of (slice_get (walk t) x.old)) (ports_of (slice_get (walk u) x.new)) in
        let same = is_same_count (ports_of (slice_get (walk t) x.old)) (ports_of (slice_get (walk u) x.new)) in
        let more = (and_parts (not (stays ps x.old)) rest e).1 in
        matching_push t u ps x m (not-true _ ((and_parts (not (stays ps x.old)) rest e).0)) (not-true _ ((and_parts (not (stood ps x.new)) same more).0))
        (fits_so (walk t) (walk u) x (slice_get (walk t) x.old) (slice_get (walk u) x.new) refl refl ((and_parts (not (stood ps x.new)) same more).1))
    go false e = m

-- some pairs of a matching
pub matching_part : (t u : Tree) (ps qs : List Pair) → IsMatching t u ps →
    ((q : Pair) → Contains qs q → Contains ps q) → IsMatching t u qs
matching_part t u ps qs m part = record {
  old_once = λ p q in_p in_q same. m.old_once p q (part p in_p) (part q in_q) same;
  new_once = λ p q in_p in_q same. m.new_once p q (part p in_p) (part q in_q) same;
  fit = λ p there. m.fit p (part p there);
}

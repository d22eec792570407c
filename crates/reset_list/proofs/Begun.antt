-- The tallies stay where their table says, as one of them changes and as one more is there.
use Rattle.std.proofs.Common.{◌≡◌, ◌∙◌, ◌==◌, ℕ, Bool, true, ◌&&◌, List, [], ◌∷◌, ◌++◌, Some, None, length, eqb-true, refl, sym, ap, subst, arith}
use Rattle.std.proofs.lemmas.Bool.{and_parts}
use Rattle.std.proofs.lemmas.Bool.Decides.{nat_tests}
use Rattle.std.specs.Prelude.{slice_get, slice_set}
use Rattle.std.specs.Ordering.{is_eq, nat_cmp, ordering_then}
use Rattle.std.specs.declared.cmp.Ordering.{Ordering}
use Rattle.std.specs.declared.cmp.Ordering.TheVariants.{Less, Equal, Greater}
use Rattle.std.specs.BTreeMap.{BTreeMap, is_at, Updates}
use Rattle.reset_list.specs.declared.counts.Tally.{Tally}
use Rattle.reset_list.specs.Counts.{is_tally, one_more_of}
use Rattle.reset_list.specs.Update.{place_of}
use Rattle.reset_list.specs.codings.Tallies.{node_cmp, is_of_node, AreTallied}
use Rattle.reset_list.proofs.Update.{place_passes}
use Rattle.reset_list.proofs.Places.{places_push, places_set}

-- ---- a node by its card and its ID

pub eq_number : (a b : ℕ) → is_eq (nat_cmp a b) ≡ (a == b)
eq_number a b = grind (arith, nat_tests)

then_eq : (o r : Ordering) → is_eq (ordering_then o r) ≡ (is_eq o && is_eq r)
then_eq Less r = refl
then_eq Equal r = refl
then_eq Greater r = refl

at_node : (t : Tally) (q : ℕ × ℕ) → is_at (node_cmp (t.card, t.node)) q ≡ is_of_node q t
at_node t q =
    then_eq (nat_cmp t.card q.0) (nat_cmp t.node q.1)
    ∙ ap (λ (b : Bool). b && is_eq (nat_cmp t.node q.1)) (eq_number t.card q.0)
    ∙ ap (λ (b : Bool). (t.card == q.0) && b) (eq_number t.node q.1)

one_node : (t : Tally) (q : ℕ × ℕ) → is_of_node q t ≡ true → q ≡ (t.card, t.node)
one_node t (card, node) e =
    let same = and_parts (t.card == card) (t.node == node) e in
    ap (λ (c : ℕ). (c, node)) (sym (eqb-true _ _ same.0)) ∙ ap (λ (n : ℕ). (t.card, n)) (sym (eqb-true _ _ same.1))

-- one more of a node is of the node
same_node : (card node : ℕ) (x y : Tally) → is_tally card node x ≡ true → y ≡ one_more_of card node (Some x) →
    (q : ℕ × ℕ) → is_of_node q y ≡ is_of_node q x
same_node card node x y passes e q =
    let same = and_parts (x.card == card) (x.node == node) passes in
    ap (λ (t : Tally). is_of_node q t) e
    ∙ ap (λ (c : ℕ). (c == q.0) && (node == q.1)) (sym (eqb-true _ _ same.0))
    ∙ ap (λ (n : ℕ). (x.card == q.0) && (n == q.1)) (sym (eqb-true _ _ same.1))

-- ---- the tallies

pub tallied_again : (places : BTreeMap (ℕ × ℕ) ℕ) (ts : List Tally) (at card node : ℕ) (x y : Tally) →
    AreTallied places ts → place_of (is_tally card node) ts ≡ Some at → slice_get ts at ≡ Some x →
    y ≡ one_more_of card node (Some x) → AreTallied places (slice_set ts at y)
tallied_again places ts at card node x y are there got e =
    places_set node_cmp is_of_node places ts at x y are got
    (same_node card node x y (place_passes (is_tally card node) ts at x there got) e)

pub tallied_first : (was is : BTreeMap (ℕ × ℕ) ℕ) (ts items : List Tally) (at : ℕ) (t : Tally) →
    AreTallied was ts → place_of (is_tally t.card t.node) ts ≡ None →
    Updates node_cmp was is (t.card, t.node) (Some at) → at ≡ length ts → items ≡ ts ++ t ∷ [] →
    AreTallied is items
tallied_first was is ts items at t are none update last e =
    subst (λ (l : List Tally). AreTallied is l) (sym e)
    (places_push node_cmp is_of_node was is ts (t.card, t.node) t are none
    (subst (λ (n : ℕ). Updates node_cmp was is (t.card, t.node) (Some n)) last update) (at_node t) (one_node t))

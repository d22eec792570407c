-- The highest ID of a candidate, found from the first node on.
use Rattle.std.proofs.Common.{◌≡◌, ℕ, zero, suc, ◌+◌, ◌≤◌, length, drop, arith, subst, Bool, true, false, cond, Option, Some, None, List, [], ◌∷◌, refl, sym, ap, ◌∙◌}
use Rattle.std.specs.Option.{option_or}
use Rattle.std.proofs.lemmas.List.{drop_all}
use Rattle.self_id.specs.Node.{Node}
use Rattle.topology_stack.specs.Elect.{is_candidate, IsCandidate, IsHighest, highest_from}

-- the highest ID of nodes from `id` on, or what was found before
abbrev pub highest_or : Option ℕ → ℕ → List Node → Option ℕ
highest_or before id ns = option_or (highest_from id ns) before

pub or_none : (x : Option ℕ) → option_or x None ≡ x
or_none None = refl
or_none (Some k) = refl

or_assoc : (x y z : Option ℕ) → option_or (option_or x y) z ≡ option_or x (option_or y z)
or_assoc None y z = refl
or_assoc (Some k) y z = refl

step_is : (b : Bool) (x before : Option ℕ) (id : ℕ) →
    option_or (option_or x (cond b (Some id) None)) before ≡ option_or x (cond b (Some id) before)
step_is true x before id = or_assoc x (Some id) before
step_is false x before id = or_assoc x None before

-- one more node
pub highest_step : (before : Option ℕ) (id : ℕ) (n : Node) (ns : List Node) →
    highest_or before id (n ∷ ns) ≡ highest_or (cond (is_candidate n) (Some id) before) (id + 1) ns
highest_step before id n ns = step_is (is_candidate n) (highest_from (id + 1) ns) before id

-- ---- what is found is the highest

-- the highest place of a candidate, where IDs are counted from `id`
abbrev Found : List Node → ℕ → Option ℕ → Type 0
Found ns id None = (i : ℕ) → IsCandidate ns i → ⊥
Found ns id (Some k) = (j : ℕ) × (k ≡ id + j) × IsCandidate ns j × ((i : ℕ) → IsCandidate ns i → i ≤ j)

up_to : (n : Node) (ns : List Node) (j : ℕ) → ((i : ℕ) → IsCandidate ns i → i ≤ j) → (i : ℕ) →
    IsCandidate (n ∷ ns) i → i ≤ suc j
up_to n ns j all zero c = omega arith
up_to n ns j all (suc i) c = omega (arith, all i c)

none_later : (n : Node) (ns : List Node) → ((i : ℕ) → IsCandidate ns i → ⊥) → (i : ℕ) →
    IsCandidate (n ∷ ns) i → i ≤ 0
none_later n ns no_more zero c = omega arith
none_later n ns no_more (suc i) c = absurd (no_more i c)

none_at_all : (n : Node) (ns : List Node) → is_candidate n ≡ false →
    ((i : ℕ) → IsCandidate ns i → ⊥) → (i : ℕ) → IsCandidate (n ∷ ns) i → ⊥
none_at_all n ns e no_more zero c = let f : true ≡ false = sym c ∙ e in absurd cc
none_at_all n ns e no_more (suc i) c = no_more i c

found_step : (n : Node) (ns : List Node) (id : ℕ) (r : Option ℕ) (b : Bool) → is_candidate n ≡ b →
    Found ns (id + 1) r → Found (n ∷ ns) id (option_or r (cond b (Some id) None))
found_step n ns id (Some k) b e (j, is, here, all) = (suc j, omega (arith, is), here, up_to n ns j all)
found_step n ns id None true e h = (zero, omega arith, e, none_later n ns h)
found_step n ns id None false e h = none_at_all n ns e h

found : (ns : List Node) (id : ℕ) → Found ns id (highest_from id ns)
found [] id = λ i c. c
found (n ∷ ns) id = found_step n ns id (highest_from (id + 1) ns) (is_candidate n) refl (found ns (id + 1))

from_zero : (ns : List Node) (r : Option ℕ) → Found ns 0 r → IsHighest ns r
from_zero ns None h = h
from_zero ns (Some k) (j, is, here, all) =
    let same : j ≡ k = omega (arith, is) in
    subst (λ (m : ℕ). IsCandidate ns m × ((i : ℕ) → IsCandidate ns i → i ≤ m)) same (here, all)

pub is_highest : (ns : List Node) → IsHighest ns (highest_from 0 ns)
is_highest ns = from_zero ns (highest_from 0 ns) (found ns 0)

-- at the end of the list
pub at_end : (ns : List Node) (i : ℕ) (m : Option ℕ) → length ns ≤ i →
    highest_or m i (drop i ns) ≡ highest_from 0 ns → IsHighest ns m
at_end ns i m le e = subst (IsHighest ns) (sym (sym (ap (highest_or m i) (drop_all i ns le)) ∙ e)) (is_highest ns)

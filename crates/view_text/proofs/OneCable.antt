-- The cables of a tree, by the tree's form: each node but the outermost hangs on one.
use Rattle.std.proofs.Common.{◌≡◌, ◌≢◌, ◌∙◌, ℕ, ◌+◌, ◌-◌, ◌<◌, ◌≤◌, cond, eqb, ⊎_elim, Option, List, [], ◌∷◌, ◌++◌, length, refl, sym, ap, arith, append_assoc, length-append}
use Rattle.std.proofs.lemmas.Bool.{cases_lt}
use Rattle.std.proofs.lemmas.Bool.Decides.{nat_tests}
use Rattle.self_id.specs.Node.{Node}
use Rattle.topology_stack.specs.Tree.{Tree, branch, Slots, no_more, absent, unplugged, up, down, statuses, node_of, walk, walk_below}
use Rattle.topology_stack.specs.Far.{slot_ends, ends_from, ends_below}
use Rattle.speed_map.proofs.Lemmas.{length-ends_from, length-ends_below}
use Rattle.view_text.specs.declared.cable.Cable.{Cable}
use Rattle.view_text.specs.Cable.{cables_of, cables_from, times, EachNodeHangsOnOneCable, CablesAreOneLessThanNodes}
use Rattle.topology_stack.proofs.Lemmas.{length-walk, some_node}

-- ---- lists of nodes in two parts

times-append : (id : ℕ) (xs ys : List Cable) → times id (xs ++ ys) ≡ times id xs + times id ys
times-append id [] ys = omega arith
times-append id (x ∷ xs) ys = omega (arith, times-append id xs ys)

from-append : (t : Tree) (id : ℕ) (ms ns : List Node) (es fs : List (List (Option ℕ))) →
    length es ≡ length ms →
    cables_from t id (ms ++ ns) (es ++ fs) ≡ cables_from t id ms es ++ cables_from t (id + length ms) ns fs
from-append t id [] ns [] fs e = ap (λ k. cables_from t k ns fs) (omega arith)
from-append t id [] ns (f ∷ es) fs e = absurd (omega (arith, e))
from-append t id (m ∷ ms) ns [] fs e = absurd (omega (arith, e))
from-append t id (m ∷ ms) ns (f ∷ es) fs e =
    let place : id + 1 + length ms ≡ id + length (m ∷ ms) = omega arith in
    ap (λ xs. cables_of t id 0 m.ports f ++ xs) (from-append t (id + 1) ms ns es fs (omega (arith, e)) ∙ ap (λ k. cables_from t (id + 1) ms es ++ cables_from t k ns fs) place)
    ∙ sym (append_assoc (cables_of t id 0 m.ports f) (cables_from t (id + 1) ms es) (cables_from t (id + length (m ∷ ms)) ns fs))

append-nothing : (xs : List Cable) → xs ++ [] ≡ xs
append-nothing [] = refl
append-nothing (x ∷ xs) = ap (λ ys. x ∷ ys) (append-nothing xs)

-- the cables of a tree are those below its outermost node and those of this node
abbrev of_branch : (t : Tree) (from parent : ℕ) (u : Tree) → List Cable
of_branch t from parent u = cables_from t from (walk u) (ends_from from parent u)

-- ---- how often a node is a child

-- a number is 1 for the places from one up to another, and 0 elsewhere
record Hits (from to k n : ℕ) : Type 0 where
  below : k < from → n ≡ 0
  inside : from ≤ k → k < to → n ≡ 1
  above : to ≤ k → n ≡ 0

none_hit : (from to k n : ℕ) → from ≡ to → n ≡ 0 → Hits from to k n
none_hit from to k n e is = record { below = λ _. is; inside = λ a b. absurd (omega (arith, e, a, b)); above = λ _. is }

one_hit : (at k n : ℕ) → n ≡ cond (eqb at k) 1 0 → Hits at (at + 1) k n
one_hit at k n e = record {
  below = λ h. let far : at ≢ k = omega arith in grind (arith, nat_tests);
  inside = λ a b. let here : at ≡ k = omega arith in grind (arith, nat_tests);
  above = λ h. let far : at ≢ k = omega arith in grind (arith, nat_tests);
}

joined_inside : (a b c k m n : ℕ) → Hits a b k m → Hits b c k n → a ≤ k → k < c → m + n ≡ 1
joined_inside a b c k m n h i x y = ⊎_elim
    (λ (lt : k < b). omega (arith, h.inside x lt, i.below lt))
    (λ (ge : b ≤ k). omega (arith, h.above ge, i.inside ge y))
    (cases_lt k b)

joined_hits : (a b c k m n : ℕ) → a ≤ b → b ≤ c → Hits a b k m → Hits b c k n → Hits a c k (m + n)
joined_hits a b c k m n ab bc h i = record {
  below = λ lt. omega (arith, h.below lt, i.below (omega arith));
  inside = λ x y. joined_inside a b c k m n h i x y;
  above = λ ge. omega (arith, h.above (omega arith), i.above ge);
}

same_hits : (a b c d k m n : ℕ) → a ≡ c → b ≡ d → m ≡ n → Hits a b k m → Hits c d k n
same_hits a b c d k m n e f g h = record {
  below = λ lt. omega (arith, g, h.below (omega arith));
  inside = λ x y. omega (arith, g, h.inside (omega arith) (omega arith));
  above = λ ge. omega (arith, g, h.above (omega arith));
}

-- the cables of a node behind those of the nodes before it
last_node : (t : Tree) (from : ℕ) (ms : List Node) (n : Node) (es : List (List (Option ℕ))) (f : List (Option ℕ)) →
    length es ≡ length ms →
    cables_from t from (ms ++ n ∷ []) (es ++ f ∷ []) ≡ cables_from t from ms es ++ cables_of t (from + length ms) 0 n.ports f
last_node t from ms n es f e =
    from-append t from ms (n ∷ []) es (f ∷ []) e
    ∙ ap (λ xs. cables_from t from ms es ++ xs) (append-nothing (cables_of t (from + length ms) 0 n.ports f))

mutual
  hits_tree : (t : Tree) (from parent k : ℕ) (u : Tree) →
      Hits from (from + length (walk u) - 1) k (times k (of_branch t from parent u))
  hits_tree t from parent k (branch a s) =
      let me : ℕ = from + length (walk_below s) in
      let e = last_node t from (walk_below s) (node_of a s) (ends_below from me s) (slot_ends from parent s) (length-ends_below from me s) in
      same_hits from (from + length (walk_below s)) from (from + length (walk (branch a s)) - 1) k
      (times k (cables_from t from (walk_below s) (ends_below from me s)) + times k (cables_of t me 0 (statuses s) (slot_ends from parent s)))
      (times k (of_branch t from parent (branch a s)))
      refl (omega (arith, length-walk a s))
      (sym (ap (times k) e ∙ times-append k (cables_from t from (walk_below s) (ends_below from me s)) (cables_of t me 0 (statuses s) (slot_ends from parent s))))
      (hits_slots t from me parent k 0 s)

  hits_slots : (t : Tree) (from me parent k slot : ℕ) (s : Slots) →
      Hits from (from + length (walk_below s)) k (times k (cables_from t from (walk_below s) (ends_below from me s)) + times k (cables_of t me slot (statuses s) (slot_ends from parent s)))
  hits_slots t from me parent k slot no_more = none_hit from (from + 0) k (0 + 0) (omega arith) (omega arith)
  hits_slots t from me parent k slot (absent s) = hits_slots t from me parent k (slot + 1) s
  hits_slots t from me parent k slot (unplugged s) = hits_slots t from me parent k (slot + 1) s
  hits_slots t from me parent k slot (up s) = hits_slots t from me parent k (slot + 1) s
  hits_slots t from me parent k slot (down u s) =
      let len : ℕ = length (walk u) in
      let top : ℕ = from + len - 1 in
      let below = of_branch t from me u in
      let behind = cables_from t (from + len) (walk_below s) (ends_below (from + len) me s) in
      let others = cables_of t me (slot + 1) (statuses s) (slot_ends (from + len) parent s) in
      let split = from-append t from (walk u) (walk_below s) (ends_from from me u) (ends_below (from + len) me s) (length-ends_from from me u) in
      let hit : ℕ = cond (eqb top k) 1 0 in
      let one = one_hit top k hit refl in
      let rest = hits_slots t (from + len) me parent k (slot + 1) s in
      let upper = joined_hits top (top + 1) (from + len + length (walk_below s)) k hit (times k behind + times k others) (omega arith) (omega (arith, some_node u)) one
      (same_hits (from + len) (from + len + length (walk_below s)) (top + 1) (from + len + length (walk_below s)) k (times k behind + times k others) (times k behind + times k others) (omega (arith, some_node u)) refl refl rest) in
      let all = joined_hits from top (from + len + length (walk_below s)) k (times k below) (hit + (times k behind + times k others)) (omega (arith, some_node u)) (omega (arith, some_node u)) (hits_tree t from me k u) upper in
      same_hits from (from + len + length (walk_below s)) from (from + length (walk u ++ walk_below s)) k (times k below + (hit + (times k behind + times k others)))
      (times k (cables_from t from (walk u ++ walk_below s) (ends_from from me u ++ ends_below (from + len) me s)) + (hit + times k others))
      refl (omega (arith, length-append (walk u) (walk_below s))) (omega (arith, ap (times k) split, times-append k below behind)) all

pub one_cable : EachNodeHangsOnOneCable
one_cable t id lt = (hits_tree t 0 63 id t).inside (omega arith) (omega arith)

-- ---- how many there are

mutual
  many_tree : (t : Tree) (from parent : ℕ) (u : Tree) →
      length (of_branch t from parent u) + 1 ≡ length (walk u)
  many_tree t from parent (branch a s) =
      let me : ℕ = from + length (walk_below s) in
      let e = last_node t from (walk_below s) (node_of a s) (ends_below from me s) (slot_ends from parent s) (length-ends_below from me s) in
      omega (arith, ap length e, length-append (cables_from t from (walk_below s) (ends_below from me s)) (cables_of t me 0 (statuses s) (slot_ends from parent s)), many_slots t from me parent 0 s, length-walk a s)

  many_slots : (t : Tree) (from me parent slot : ℕ) (s : Slots) →
      length (cables_from t from (walk_below s) (ends_below from me s)) + length (cables_of t me slot (statuses s) (slot_ends from parent s)) ≡ length (walk_below s)
  many_slots t from me parent slot no_more = omega arith
  many_slots t from me parent slot (absent s) = many_slots t from me parent (slot + 1) s
  many_slots t from me parent slot (unplugged s) = many_slots t from me parent (slot + 1) s
  many_slots t from me parent slot (up s) = many_slots t from me parent (slot + 1) s
  many_slots t from me parent slot (down u s) =
      let len : ℕ = length (walk u) in
      let below = of_branch t from me u in
      let behind = cables_from t (from + len) (walk_below s) (ends_below (from + len) me s) in
      let split = from-append t from (walk u) (walk_below s) (ends_from from me u) (ends_below (from + len) me s) (length-ends_from from me u) in
      omega (arith, ap length split, length-append below behind, many_tree t from me u, many_slots t (from + len) me parent (slot + 1) s, length-append (walk u) (walk_below s))

pub one_less : CablesAreOneLessThanNodes
one_less t = many_tree t 0 63 t

-- Linking the nodes of a walk one by one gives the parents and children of its tree.
use Rattle.std.proofs.Common.{◌≡◌, ℕ, ◌+◌, ◌-◌, List, [], ◌∷◌, ◌++◌, length, take, drop, set, refl, sym, ap, ◌∙◌, append_assoc, arith, length-append}
use Rattle.std.proofs.lemmas.List.{append-nil, take_at, drop_at}
use Rattle.self_id.specs.Node.{Node, downs}
use Rattle.topology_stack.specs.Tree.{Label, Tree, branch, Slots, no_more, absent, unplugged, up, down, statuses, node_of, walk, walk_below, IsBusTree}
use Rattle.topology_stack.specs.Stored.{parents_from, parents_below, child_ids, children_from, children_below, Stored}
use Rattle.topology_stack.specs.Links.{set_all, Linking, linked, all_linked, unlinked}

abbrev pub link : Linking → Node → Linking
link l n = linked (length l.waiting - downs n.ports) l

pub all_linked-append : (l : Linking) (ms ns : List Node) →
    all_linked l (ms ++ ns) ≡ all_linked (all_linked l ms) ns
all_linked-append l [] ns = refl
all_linked-append l (m ∷ ms) ns = all_linked-append (link l m) ms ns

pub length-child_ids : (from : ℕ) (s : Slots) → length (child_ids from s) ≡ downs (statuses s)
length-child_ids from no_more = refl
length-child_ids from (absent s) = length-child_ids from s
length-child_ids from (unplugged s) = length-child_ids from s
length-child_ids from (up s) = length-child_ids from s
length-child_ids from (down t s) = omega (arith, length-child_ids (from + length (walk t)) s)

mutual
  pub length-parents_from : (from parent : ℕ) (t : Tree) →
      length (parents_from from parent t) ≡ length (walk t)
  length-parents_from from parent (branch a s) = omega (arith, length-append (parents_below from (from + length (walk_below s)) s) (parent ∷ []), length-append (walk_below s) (node_of a s ∷ []), length-parents_below from (from + length (walk_below s)) s)

  pub length-parents_below : (from id : ℕ) (s : Slots) →
      length (parents_below from id s) ≡ length (walk_below s)
  length-parents_below from id no_more = refl
  length-parents_below from id (absent s) = length-parents_below from id s
  length-parents_below from id (unplugged s) = length-parents_below from id s
  length-parents_below from id (up s) = length-parents_below from id s
  length-parents_below from id (down t s) = omega (arith, length-append (parents_from from id t) (parents_below (from + length (walk t)) id s), length-append (walk t) (walk_below s), length-parents_from from id t, length-parents_below (from + length (walk t)) id s)

set_at_seam : (xs : List ℕ) (y : ℕ) (ys : List ℕ) (id : ℕ) →
    set (xs ++ y ∷ ys) (length xs) id ≡ xs ++ id ∷ ys
set_at_seam [] y ys id = refl
set_at_seam (x ∷ xs) y ys id = ap (λ (l : List ℕ). x ∷ l) (set_at_seam xs y ys id)

set_seam : (xs : List ℕ) (y : ℕ) (ys : List ℕ) (k id : ℕ) → k ≡ length xs →
    set (xs ++ y ∷ ys) k id ≡ (xs ++ id ∷ []) ++ ys
set_seam xs y ys k id e = ap (λ (i : ℕ). set (xs ++ y ∷ ys) i id) e ∙ set_at_seam xs y ys id ∙ sym (append_assoc xs (id ∷ []) ys)

-- children that had no parent have it
adopted : (s : Slots) (ps : List ℕ) (from id : ℕ) → from ≡ length ps →
    set_all (child_ids from s) id (ps ++ parents_below from 63 s) ≡ ps ++ parents_below from id s
adopted no_more ps from id e = refl
adopted (absent s) ps from id e = adopted s ps from id e
adopted (unplugged s) ps from id e = adopted s ps from id e
adopted (up s) ps from id e = adopted s ps from id e
adopted (down (branch a r) s) ps from id e =
    let here = from + length (walk_below r) in
    let inner = parents_below from here r in
    let rest = parents_below (from + length (walk (branch a r))) 63 s in
    let place : from + length (walk (branch a r)) - 1 ≡ length (ps ++ inner) = omega (arith, e, length-append ps inner, length-parents_below from here r, length-append (walk_below r) (node_of a r ∷ [])) in
    let shape : ps ++ ((inner ++ 63 ∷ []) ++ rest) ≡ (ps ++ inner) ++ 63 ∷ rest = simp append_assoc in
    let back : ((ps ++ inner) ++ id ∷ []) ≡ ps ++ (inner ++ id ∷ []) = append_assoc ps inner (id ∷ []) in
    let len : from + length (walk (branch a r)) ≡ length (ps ++ (inner ++ id ∷ [])) = omega (arith, e, length-append ps (inner ++ id ∷ []), length-append inner (id ∷ []), length-parents_below from here r, length-append (walk_below r) (node_of a r ∷ [])) in
    ap (λ (x : List ℕ). set_all (child_ids (from + length (walk (branch a r))) s) id (set x (from + length (walk (branch a r)) - 1) id)) shape
    ∙ ap (λ (x : List ℕ). set_all (child_ids (from + length (walk (branch a r))) s) id x) (set_seam (ps ++ inner) 63 rest (from + length (walk (branch a r)) - 1) id place ∙ ap (λ (x : List ℕ). x ++ rest) back)
    ∙ adopted s (ps ++ (inner ++ id ∷ [])) (from + length (walk (branch a r))) id len
    ∙ append_assoc ps (inner ++ id ∷ []) (parents_below (from + length (walk (branch a r))) id s)

-- a tree of its own, and trees below slots, added to what is linked
abbrev pub with_tree : Linking → Tree → Linking
with_tree l t = record {
  waiting = l.waiting ++ (length l.above + length (walk t) - 1) ∷ [];
  above = l.above ++ parents_from (length l.above) 63 t;
  below = l.below ++ children_from (length l.above) t;
}

abbrev with_slots : Linking → Slots → Linking
with_slots l s = record {
  waiting = l.waiting ++ child_ids (length l.above) s;
  above = l.above ++ parents_below (length l.above) 63 s;
  below = l.below ++ children_below (length l.above) s;
}

abbrev make : List ℕ → List ℕ → List (List ℕ) → Linking
make w a b = record { waiting = w; above = a; below = b }

same_linking : (a b : Linking) → a.waiting ≡ b.waiting → a.above ≡ b.above → a.below ≡ b.below →
    a ≡ b
same_linking a b p q r = ap (λ (w : List ℕ). make w a.above a.below) p ∙ ap (λ (x : List ℕ). make b.waiting x a.below) q ∙ ap (λ (x : List (List ℕ)). make b.waiting b.above x) r

-- the node behind its children
closed : (l : Linking) (a : Label) (s : Slots) →
    link (with_slots l s) (node_of a s) ≡ with_tree l (branch a s)
closed l a s =
    let from = length l.above in
    let children = child_ids from s in
    let count : length (l.waiting ++ children) - downs (statuses s) ≡ length l.waiting = omega (arith, length-append l.waiting children, length-child_ids from s) in
    let last : drop (length (l.waiting ++ children) - downs (statuses s)) (l.waiting ++ children) ≡ children = rw count (drop_at l.waiting children (length l.waiting) refl) in
    let first : take (length (l.waiting ++ children) - downs (statuses s)) (l.waiting ++ children) ≡ l.waiting = rw count (take_at l.waiting children (length l.waiting) refl) in
    let id : length (l.above ++ parents_below from 63 s) ≡ from + length (walk_below s) = omega (arith, length-append l.above (parents_below from 63 s), length-parents_below from 63 s) in
    let own : from + length (walk_below s) ≡ from + length (walk (branch a s)) - 1 = omega (arith, length-append (walk_below s) (node_of a s ∷ [])) in
    same_linking (link (with_slots l s) (node_of a s)) (with_tree l (branch a s))
    (ap (λ (x : List ℕ). x ++ length (l.above ++ parents_below from 63 s) ∷ []) first ∙ ap (λ (k : ℕ). l.waiting ++ k ∷ []) (id ∙ own))
    (ap (λ (x : List ℕ). set_all x (length (l.above ++ parents_below from 63 s)) (l.above ++ parents_below from 63 s) ++ 63 ∷ []) last
    ∙ ap (λ (k : ℕ). set_all children k (l.above ++ parents_below from 63 s) ++ 63 ∷ []) id
    ∙ ap (λ (x : List ℕ). x ++ 63 ∷ []) (adopted s l.above from (from + length (walk_below s)) refl)
    ∙ append_assoc l.above (parents_below from (from + length (walk_below s)) s) (63 ∷ []))
    (ap (λ (x : List ℕ). (l.below ++ children_below from s) ++ x ∷ []) last ∙ append_assoc l.below (children_below from s) (children ∷ []))

one_after : (l : Linking) (t : Tree) (s : Slots) →
    with_slots (with_tree l t) s ≡ with_slots l (down t s)
one_after l t s =
    let from = length l.above in
    let next : length (l.above ++ parents_from from 63 t) ≡ from + length (walk t) = omega (arith, length-append l.above (parents_from from 63 t), length-parents_from from 63 t) in
    same_linking (with_slots (with_tree l t) s) (with_slots l (down t s))
    (ap (λ (k : ℕ). (l.waiting ++ (from + length (walk t) - 1) ∷ []) ++ child_ids k s) next ∙ append_assoc l.waiting ((from + length (walk t) - 1) ∷ []) (child_ids (from + length (walk t)) s))
    (ap (λ (k : ℕ). (l.above ++ parents_from from 63 t) ++ parents_below k 63 s) next ∙ append_assoc l.above (parents_from from 63 t) (parents_below (from + length (walk t)) 63 s))
    (ap (λ (k : ℕ). (l.below ++ children_from from t) ++ children_below k s) next ∙ append_assoc l.below (children_from from t) (children_below (from + length (walk t)) s))

mutual
  links-walk : (t : Tree) (l : Linking) → all_linked l (walk t) ≡ with_tree l t
  links-walk (branch a s) l = all_linked-append l (walk_below s) (node_of a s ∷ []) ∙ ap (λ (k : Linking). link k (node_of a s)) (links-walk_below s l) ∙ closed l a s

  links-walk_below : (s : Slots) (l : Linking) → all_linked l (walk_below s) ≡ with_slots l s
  links-walk_below no_more l = same_linking l (with_slots l no_more) (sym (append-nil l.waiting)) (sym (append-nil l.above)) (sym (append-nil l.below))
  links-walk_below (absent s) l = links-walk_below s l
  links-walk_below (unplugged s) l = links-walk_below s l
  links-walk_below (up s) l = links-walk_below s l
  links-walk_below (down t s) l = all_linked-append l (walk t) (walk_below s) ∙ ap (λ (k : Linking). all_linked k (walk_below s)) (links-walk t l) ∙ links-walk_below s (with_tree l t) ∙ one_after l t s

-- the links of a tree
pub links_of-walk : (t : Tree) → all_linked unlinked (walk t) ≡ with_tree unlinked t
links_of-walk t = links-walk t unlinked

mutual
  pub length-children_from : (from : ℕ) (t : Tree) → length (children_from from t) ≡ length (walk t)
  length-children_from from (branch a s) = omega (arith, length-append (children_below from s) (child_ids from s ∷ []), length-append (walk_below s) (node_of a s ∷ []), length-children_below from s)

  pub length-children_below : (from : ℕ) (s : Slots) →
      length (children_below from s) ≡ length (walk_below s)
  length-children_below from no_more = refl
  length-children_below from (absent s) = length-children_below from s
  length-children_below from (unplugged s) = length-children_below from s
  length-children_below from (up s) = length-children_below from s
  length-children_below from (down t s) = omega (arith, length-append (children_from from t) (children_below (from + length (walk t)) s), length-append (walk t) (walk_below s), length-children_from from t, length-children_below (from + length (walk t)) s)

-- what is linked is what a tree keeps
pub stored : (t : Tree) (ns : List Node) (l : Linking) → IsBusTree t → ns ≡ walk t →
    l ≡ all_linked unlinked ns → Stored t ns l.above l.below
stored t ns l bus nodes is =
    let linked : l ≡ with_tree unlinked t = is ∙ ap (all_linked unlinked) nodes ∙ links_of-walk t in
    record { bus = bus; walk_is = nodes; above = ap (λ (k : Linking). k.above) linked; below = ap (λ (k : Linking). k.below) linked }

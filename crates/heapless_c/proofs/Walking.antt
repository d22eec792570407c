-- The group of a node stands in its tree's list behind those of the nodes before it.
use Rattle.std.proofs.Common.{◌≡◌, ℕ, zero, suc, ◌+◌, ◌<◌, List, [], ◌∷◌, ◌++◌, length, take, drop, refl, sym, ap, subst, ◌∙◌, arith, length-append, length-drop}
use Rattle.std.specs.Prelude.{slice_get, Some}
use Rattle.std.proofs.lemmas.List.{drop_at, length-take-le}
use Rattle.self_id.specs.declared.standard.Standard.{Standard}
use Rattle.self_id.specs.Node.{Node}
use Rattle.self_id.specs.Group.{group, BeginsWith}
use Rattle.self_id.proofs.Lemmas.{length-group}
use Rattle.topology_stack.specs.Tree.{Tree, walk, AreOf, IsBusTreeOf, groups, emits}
use Rattle.topology_stack.proofs.Lemmas.{AreOf-parts, are_nodes, groups-append, groups-snoc, item_at, one_tree}
use Rattle.heapless_c.specs.Reading.{IsLinked, IsPlaced}

split_at : {A : Type 0} (l : List A) (i : ℕ) (x : A) → slice_get l i ≡ Some x → l ≡ take i l ++ x ∷ drop (suc i) l
split_at [] i x e = absurd cc
split_at (y ∷ l) zero x e = let same : y ≡ x = cc in rw same refl
split_at {A} (y ∷ l) (suc i) x e = ap (λ (m : List A). y ∷ m) (split_at l i x e)

take_more : {A : Type 0} (l : List A) (i : ℕ) (x : A) → slice_get l i ≡ Some x → take (suc i) l ≡ take i l ++ x ∷ []
take_more [] i x e = absurd cc
take_more (y ∷ l) zero x e = let same : y ≡ x = cc in rw same refl
take_more {A} (y ∷ l) (suc i) x e = ap (λ (m : List A). y ∷ m) (take_more l i x e)

-- the list of a tree, from the node's group on
parts_at : (t : Tree) (id : ℕ) (n : Node) → id < length (walk t) → slice_get (walk t) id ≡ Some n →
    emits t ≡ groups 0 (take id (walk t)) ++ (group n id ++ groups (id + 1) (drop (suc id) (walk t)))
parts_at t id n lt node =
    let count : 0 + length (take id (walk t)) ≡ id = omega (arith, length-take-le id (walk t) (omega (arith, lt))) in
    ap (groups 0) (split_at (walk t) id n node)
    ∙ groups-append 0 (take id (walk t)) (n ∷ drop (suc id) (walk t))
    ∙ ap (λ (k : ℕ). groups 0 (take id (walk t)) ++ groups k (n ∷ drop (suc id) (walk t))) count

pub stands_next : (s : Standard) (t : Tree) (quads : List ℕ) (at id : ℕ) (n : Node) → IsBusTreeOf s t →
    emits t ≡ quads → id < length (walk t) → slice_get (walk t) id ≡ Some n →
    at ≡ length (groups 0 (take id (walk t))) → BeginsWith s (drop at quads) id n
stands_next s t quads at id n bus e lt node place =
    let nodes = AreOf-parts s (take id (walk t)) (n ∷ drop (suc id) (walk t)) (subst (AreOf s) (split_at (walk t) id n node) bus.nodes) in
    record {
      is_node = are_nodes t id n bus.bus node;
      is_of = nodes.1.0;
      rest = groups (id + 1) (drop (suc id) (walk t));
      parts = ap (drop at) (sym e ∙ parts_at t id n lt node) ∙ drop_at (groups 0 (take id (walk t))) (group n id ++ groups (id + 1) (drop (suc id) (walk t))) at (sym place);
    }

-- where the next group stands
pub place_after : (t : Tree) (at after id : ℕ) (n : Node) → id < length (walk t) → slice_get (walk t) id ≡ Some n →
    at ≡ length (groups 0 (take id (walk t))) → after ≡ at + length (group n id) →
    after ≡ length (groups 0 (take (id + 1) (walk t)))
place_after t at after id n lt node place is =
    let next : id + 1 ≡ suc id = omega arith in
    let count : length (take id (walk t)) ≡ id = length-take-le id (walk t) (omega (arith, lt)) in
    let more : groups 0 (take (id + 1) (walk t)) ≡ groups 0 (take id (walk t)) ++ group n id =
    ap (λ (k : ℕ). groups 0 (take k (walk t))) next ∙ ap (groups 0) (take_more (walk t) id n node) ∙ groups-snoc (take id (walk t)) n ∙ ap (λ (k : ℕ). groups 0 (take id (walk t)) ++ group n k) count in
    omega (arith, place, is, ap length more, length-append (groups 0 (take id (walk t))) (group n id))

-- the group stands inside of the list
pub inside : (s : Standard) (quads : List ℕ) (at id : ℕ) (n : Node) → BeginsWith s (drop at quads) id n →
    at < length quads
inside s quads at id n b = omega (arith, ap length b.parts, length-append (group n id) b.rest, (length-group n id b.is_node).0, length-drop at quads)

-- no list has two trees
pub same_tree : (s : Standard) (quads parents qarents : List ℕ) (lists mists : List (List ℕ)) (t u : Tree) →
    IsLinked s quads parents lists t → IsLinked s quads qarents mists u → t ≡ u
same_tree s quads parents qarents lists mists t u a b = one_tree s t u a.bus b.bus (a.emitted ∙ sym b.emitted)

pub placed : (s : Standard) (quads parents : List ℕ) (lists : List (List ℕ)) (t : Tree) (id : ℕ) (n : Node) (parent : ℕ) (children : List ℕ) →
    IsLinked s quads parents lists t → slice_get (walk t) id ≡ Some n → slice_get parents id ≡ Some parent →
    slice_get lists id ≡ Some children → IsPlaced t id n parent children
placed s quads parents lists t id n parent children linked node above below = record { parents = parents; lists = lists; stored = linked.stored; node = node; above = above; below = below }

-- the node with the next ID, whose group follows
pub next_node : (s : Standard) (quads parents : List ℕ) (lists : List (List ℕ)) (count at id : ℕ) (t : Tree) →
    count ≡ length (walk t) → IsLinked s quads parents lists t → id < count →
    at ≡ length (groups 0 (take id (walk t))) →
    (n : Node) × (slice_get (walk t) id ≡ Some n) × BeginsWith s (drop at quads) id n
next_node s quads parents lists count at id t many linked lt place =
    let inside : id < length (walk t) = omega (arith, lt, many) in
    let n = item_at (walk t) id inside in
    (n.0, n.1, stands_next s t quads at id n.0 linked.bus linked.emitted inside n.1 place)

-- How many quadlets and packet zeros the nodes of a bus emit.
use Rattle.std.proofs.Common.{◌≡◌, ℕ, suc, ◌+◌, ◌*◌, ◌≤◌, List, [], ◌∷◌, length, Some, refl, ◌∙◌, arith, length-append}
use Rattle.std.specs.Prelude.{slice_get}
use Rattle.self_id.specs.Node.{Node, IsNode}
use Rattle.self_id.specs.Group.{group, node_count}
use Rattle.self_id.proofs.Lemmas.{length-group, node_count-group, node_count-append}
use Rattle.topology_stack.specs.Tree.{Tree, walk, groups, emits, IsBusTree}
use Rattle.topology_stack.proofs.Lemmas.{are_nodes}

-- what is said of each of these nodes
AreNodes : List Node → Type 0
AreNodes ns = (i : ℕ) (n : Node) → slice_get ns i ≡ Some n → IsNode n

node_count-groups : (id : ℕ) (ns : List Node) → AreNodes ns → id + length ns ≤ 63 →
    node_count (groups id ns) ≡ length ns
unfolding AreNodes
node_count-groups id [] each few = refl
node_count-groups id (n ∷ ns) each few =
    let rest = node_count-groups (id + 1) ns (λ (i : ℕ) (m : Node) (e : slice_get ns i ≡ Some m). each (suc i) m e) (omega arith) in
    let first = node_count-group n id (each 0 n refl).form (omega arith) in
    node_count-append (group n id) (groups (id + 1) ns) ∙ (rw (first, rest) (omega arith))

length-groups : (id : ℕ) (ns : List Node) → AreNodes ns → length (groups id ns) ≤ 4 * length ns
unfolding AreNodes
length-groups id [] each = omega arith
length-groups id (n ∷ ns) each =
    let rest = length-groups (id + 1) ns (λ (i : ℕ) (m : Node) (e : slice_get ns i ≡ Some m). each (suc i) m e) in
    let first = length-group n id (each 0 n refl) in
    omega (arith, rest, first.1, length-append (group n id) (groups (id + 1) ns))

-- a bus has as many packet zeros as nodes, and at most 252 quadlets
pub node_count-emits : (t : Tree) → IsBusTree t → node_count (emits t) ≡ length (walk t)
unfolding AreNodes
node_count-emits t h = node_count-groups 0 (walk t) (λ (i : ℕ) (n : Node) (e : slice_get (walk t) i ≡ Some n). are_nodes t i n h e) (let few = h.small in omega arith)

pub length-emits : (t : Tree) → IsBusTree t → length (emits t) ≤ 252
unfolding AreNodes
length-emits t h =
    let few = h.small in
    omega (arith, few, length-groups 0 (walk t) (λ (i : ℕ) (n : Node) (e : slice_get (walk t) i ≡ Some n). are_nodes t i n h e))

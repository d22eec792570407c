-- What crates above use: no list has two trees, a tree and a fault, or two faults, and each list has
-- one of them; and what a bus tree's walk is like.
use Rattle.std.proofs.Common.{◌≡◌, ℕ, zero, suc, ◌<◌, ◌⊎◌, inl, inr, List, [], ◌∷◌, ◌++◌, length, Result, Ok, Err, sym, ap, subst, ◌∙◌, arith, length-append}
use Rattle.topology_stack.specs.declared.fault.TreeFault.{TreeFault}
use Rattle.std.specs.Prelude.{◌+◌, slice_get, Some}
use Rattle.self_id.specs.declared.standard.Standard.{Standard}
use Rattle.self_id.specs.Node.{Node, IsNode}
use Rattle.topology_stack.specs.Tree.{Label, Tree, branch, Slots, no_more, absent, unplugged, up, down, walk_below, node_of, walk, IsPart, AreParts, IsBusTree, IsBusTreeOf, emits}
use Rattle.topology_stack.specs.codings.Code.{tree_of, tree_of-walk}
use Rattle.topology_stack.specs.Refused.{Refused}
use Rattle.topology_stack.proofs.ReadFrom.{read}
use Rattle.topology_stack.proofs.Sound.{Explained, read_sound}
use Rattle.topology_stack.proofs.Exact.{emits_again, refused_again}
-- The highest ID of a candidate, found from the first node on.
pub use Rattle.topology_stack.proofs.Highest.{is_highest}
-- Faults that a list keeps, however it goes on.
pub use Rattle.topology_stack.proofs.Lasting.{lasts}
-- A way through a list, one node after the other: what each step comes to, and what it leaves.
pub use Rattle.topology_stack.proofs.Loop.{is_after_root, is_full, is_group_fault, is_node_fault, is_end, ended_empty, ended_unrooted, ended_rooted, goes_round, takes, refuses, place_is, moves}
pub use Rattle.topology_stack.proofs.Stack.{groups-append, groups-snoc, AreOf-parts}
-- The parents and children that are kept of the nodes of a list, and the slots that lead to them.
pub use Rattle.topology_stack.proofs.Joining.{Joining, kept_is, keeps, count_is, links_one_more}
pub use Rattle.topology_stack.proofs.Linking.{stored}
pub use Rattle.topology_stack.proofs.Cutting.{later, has_room, has_end, pushed}
pub use Rattle.topology_stack.proofs.Ends.{end_at, far_is, fewer_before, kids_enough, length-children, length-parents, length-slot_ends, one_end, status_at}
-- What stands at a place of a list.
pub use Rattle.quad_lanes.proofs.Lemmas.{item_at}

explained : (standard : Standard) (l : List ℕ) (r : Result (List Node) TreeFault) →
    read standard l ≡ r → Explained standard l r
explained standard l r e = subst (Explained standard l) e (read_sound standard l)

pub is_refused : (standard : Standard) (l : List ℕ) (f : TreeFault) → read standard l ≡ Err f →
    Refused standard l f
is_refused standard l f e = explained standard l (Err f) e

pub is_emitted : (standard : Standard) (l : List ℕ) (ns : List Node) → read standard l ≡ Ok ns →
    (t : Tree) × IsBusTreeOf standard t × (ns ≡ walk t) × (emits t ≡ l)
is_emitted standard l ns e = let x = explained standard l (Ok ns) e in (x.0, x.1.bus, x.1.nodes, sym x.1.list)

abbrev ok_nodes : List Node → Result (List Node) TreeFault
ok_nodes ns = Ok ns

abbrev err_nodes : TreeFault → Result (List Node) TreeFault
err_nodes f = Err f

apart : (ns : List Node) (f : TreeFault) → ok_nodes ns ≡ err_nodes f → ⊥
apart ns f e = cc

same_fault : (f g : TreeFault) → err_nodes f ≡ err_nodes g → f ≡ g
same_fault f g e = cc

same_nodes : (ms ns : List Node) → ok_nodes ms ≡ ok_nodes ns → ms ≡ ns
same_nodes ms ns e = cc

-- no list has two trees
pub one_tree : (standard : Standard) (t u : Tree) → IsBusTreeOf standard t →
    IsBusTreeOf standard u → emits t ≡ emits u → t ≡ u
one_tree standard t u bt bu e = sym (tree_of-walk t) ∙ ap tree_of (same_nodes (walk t) (walk u) (sym (emits_again standard t bt) ∙ ap (read standard) e ∙ emits_again standard u bu)) ∙ tree_of-walk u

-- a list that a tree emits has no fault
pub no_fault : (standard : Standard) (t : Tree) (f : TreeFault) → IsBusTreeOf standard t →
    Refused standard (emits t) f → ⊥
no_fault standard t f bus is = apart (walk t) f (sym (emits_again standard t bus) ∙ refused_again standard (emits t) f is)

-- no list has two faults
pub one_fault : (standard : Standard) (l : List ℕ) (f g : TreeFault) → Refused standard l f →
    Refused standard l g → f ≡ g
one_fault standard l f g a b = same_fault f g (sym (refused_again standard l f a) ∙ refused_again standard l g b)

-- each list has a tree or a fault
data Answer (standard : Standard) (l : List ℕ) : Type 0 where
  accepted : (t : Tree) → IsBusTreeOf standard t → emits t ≡ l → Answer standard l
  refused : (f : TreeFault) → Refused standard l f → Answer standard l

answer_by : (standard : Standard) (l : List ℕ) (r : Result (List Node) TreeFault) →
    Explained standard l r → Answer standard l
answer_by standard l (Ok ns) (t, e) = accepted t e.bus (sym e.list)
answer_by standard l (Err f) is = refused f is

pub one_of : (standard : Standard) (l : List ℕ) →
    ((t : Tree) × IsBusTreeOf standard t × (emits t ≡ l)) ⊎ ((f : TreeFault) × Refused standard l f)
one_of standard l = elim (answer_by standard l (read standard l) (read_sound standard l)) [
  | accepted t bus is ↦ inl (t, bus, is)
  | refused f is ↦ inr (f, is)
]

-- ---- walks

-- a tree's node is the last of its walk
pub length-walk : (a : Label) (s : Slots) → length (walk (branch a s)) ≡ length (walk_below s) + 1
length-walk a s = length-append (walk_below s) (node_of a s ∷ [])

-- so a tree has a node
pub some_node : (t : Tree) → 0 < length (walk t)
some_node (branch a s) = omega (arith, length-walk a s)

-- each node of a bus tree is one that packets can show
abbrev AllNodes : List Node → Type 0
AllNodes ns = (i : ℕ) (n : Node) → slice_get ns i ≡ Some n → IsNode n

both : (ms ns : List Node) → AllNodes ms → AllNodes ns → AllNodes (ms ++ ns)
both [] ns a b i n e = b i n e
both (m ∷ ms) ns a b zero n e = a zero n e
both (m ∷ ms) ns a b (suc i) n e = both ms ns (λ j k f. a (suc j) k f) b i n e

alone : (m : Node) → IsNode m → AllNodes (m ∷ [])
alone m h zero n e = let same : m ≡ n = cc in subst IsNode same h
alone m h (suc i) n e = absurd cc

mutual
  part_nodes : (t : Tree) → IsPart t → AllNodes (walk t)
  part_nodes (branch a s) h = both (walk_below s) (node_of a s ∷ []) (λ j m. parts_nodes s h.2 j m) (alone (node_of a s) h.0)

  parts_nodes : (s : Slots) → AreParts s → AllNodes (walk_below s)
  parts_nodes no_more h i n e = absurd cc
  parts_nodes (absent s) h i n e = parts_nodes s h i n e
  parts_nodes (unplugged s) h i n e = parts_nodes s h i n e
  parts_nodes (up s) h i n e = parts_nodes s h i n e
  parts_nodes (down t s) h i n e = both (walk t) (walk_below s) (λ j m. part_nodes t h.0 j m) (λ j m. parts_nodes s h.1 j m) i n e

bus_nodes : (t : Tree) → IsBusTree t → AllNodes (walk t)
bus_nodes (branch a s) bus = both (walk_below s) (node_of a s ∷ []) (parts_nodes s bus.whole.2) (alone (node_of a s) bus.whole.0)

pub are_nodes : (t : Tree) (i : ℕ) (n : Node) → IsBusTree t → slice_get (walk t) i ≡ Some n →
    IsNode n
are_nodes t i n bus e = bus_nodes t bus i n e

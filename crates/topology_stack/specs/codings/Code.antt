-- A tree is stored as its walk, from which it is built again. No public contract cites this file.
use Rattle.std.specs.Prelude.{◌≡◌, List, [], ◌∷◌, ◌++◌, false, refl}
use Rattle.std.specs.Coded.{Coded, code_by, coded_list}
use Rattle.self_id.specs.declared.node.Attrs.{Attrs}
use Rattle.self_id.specs.declared.node.PortStatus.{PortStatus}
use Rattle.self_id.specs.declared.node.PortStatus.TheVariants.{Absent, Unplugged, Up, Down}
use Rattle.self_id.specs.Node.{Node}
use Rattle.self_id.proofs.Lemmas.{node_code}
use Rattle.topology_stack.specs.Tree.{Label, Tree, branch, Slots, no_more, absent, unplugged, up, down, statuses, node_of, walk, walk_below}

abbrev pub label_of : Node → Label
label_of n = record { attrs = n.attrs; kept_a = n.kept_a; kept_b = n.kept_b }

-- slots with these statuses, whose children are the latest trees; and the trees before these
abbrev pub with_child : Slots × List Tree → Slots × List Tree
with_child (s, []) = (unplugged s, [])
with_child (s, t ∷ ts) = (down t s, ts)

abbrev pub build : List PortStatus → List Tree → Slots × List Tree
build [] ts = (no_more, ts)
build (Absent ∷ ps) ts = (absent (build ps ts).0, (build ps ts).1)
build (Unplugged ∷ ps) ts = (unplugged (build ps ts).0, (build ps ts).1)
build (Up ∷ ps) ts = (up (build ps ts).0, (build ps ts).1)
build (Down ∷ ps) ts = with_child (build ps ts)

-- the trees, the latest first, after one more node
abbrev pub joined : Node → List Tree → List Tree
joined n ts = branch (label_of n) (build n.ports ts).0 ∷ (build n.ports ts).1

abbrev pub stack_from : List Tree → List Node → List Tree
stack_from ts [] = ts
stack_from ts (n ∷ ns) = stack_from (joined n ts) ns

abbrev no_attrs : Attrs
no_attrs = record {
  link = false;
  gap = 0;
  speed = 0;
  delay = 0;
  contender = false;
  power = 0;
  initiated = false;
}

-- no tree has no node: this one stands for a list that is no walk
abbrev pub nothing : Tree
nothing = branch (record { attrs = no_attrs; kept_a = 0; kept_b = 0 }) no_more

abbrev pub top : List Tree → Tree
top [] = nothing
top (t ∷ ts) = t

abbrev pub tree_of : List Node → Tree
tree_of ns = top (stack_from [] ns)

-- the trees below slots are the latest
abbrev pub with_parts : Slots → List Tree → List Tree
with_parts no_more ts = ts
with_parts (absent s) ts = with_parts s ts
with_parts (unplugged s) ts = with_parts s ts
with_parts (up s) ts = with_parts s ts
with_parts (down t s) ts = with_parts s (t ∷ ts)

pub build-with_parts : (s : Slots) (ts : List Tree) →
    build (statuses s) (with_parts s ts) ≡ (s, ts)
build-with_parts no_more ts = refl
build-with_parts (absent s) ts = rw (build-with_parts s ts) refl
build-with_parts (unplugged s) ts = rw (build-with_parts s ts) refl
build-with_parts (up s) ts = rw (build-with_parts s ts) refl
build-with_parts (down t s) ts = rw (build-with_parts s (t ∷ ts)) refl

pub stack_from-append : (ts : List Tree) (ms ns : List Node) →
    stack_from ts (ms ++ ns) ≡ stack_from (stack_from ts ms) ns
stack_from-append ts [] ns = refl
stack_from-append ts (m ∷ ms) ns = stack_from-append (joined m ts) ms ns

mutual
  pub stack_from-walk : (t : Tree) (ts : List Tree) → stack_from ts (walk t) ≡ t ∷ ts
  stack_from-walk (branch a s) ts =
      rw (
        stack_from-append ts (walk_below s) (node_of a s ∷ []),
        stack_from-walk_below s ts,
        build-with_parts s ts,
      ) refl

  pub stack_from-walk_below : (s : Slots) (ts : List Tree) →
      stack_from ts (walk_below s) ≡ with_parts s ts
  stack_from-walk_below no_more ts = refl
  stack_from-walk_below (absent s) ts = stack_from-walk_below s ts
  stack_from-walk_below (unplugged s) ts = stack_from-walk_below s ts
  stack_from-walk_below (up s) ts = stack_from-walk_below s ts
  stack_from-walk_below (down t s) ts =
      rw (stack_from-append ts (walk t) (walk_below s), stack_from-walk t ts)
      (stack_from-walk_below s (t ∷ ts))

-- a tree is the tree of its walk
pub tree_of-walk : (t : Tree) → tree_of (walk t) ≡ t
tree_of-walk t = rw (stack_from-walk t []) refl

abbrev pub tree_code : Coded Tree
tree_code = code_by (List Node) (coded_list node_code) walk tree_of tree_of-walk

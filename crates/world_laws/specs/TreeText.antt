-- What the text of a bus tree tells. It leaves out each node's delay, and the bits that the further
-- packets carry unread.
use Rattle.std.specs.Prelude.{◌≡◌, ℕ, ◌<◌, Option, Some, None, List, [], ◌∷◌}
use Rattle.self_id.specs.declared.node.Attrs.{Attrs}
use Rattle.self_id.specs.declared.node.PortStatus.{PortStatus}
use Rattle.self_id.specs.declared.node.PortStatus.TheVariants.{Absent, Unplugged, Up, Down}
use Rattle.self_id.specs.declared.standard.Standard.{Standard}
use Rattle.self_id.specs.Node.{Node, FitBits, node_with}
use Rattle.topology_stack.specs.Tree.{Label, Tree, branch, Slots, no_more, absent, unplugged, up, down, IsBusTreeOf}
use Rattle.topology_stack.specs.Far.{ends}
use Rattle.topology_stack.specs.Text.{node_line, tree_text}

-- attributes without the delay, which stands in no text
abbrev pub told_attrs : Attrs → Attrs
told_attrs a = record a { delay = 0 }

-- a node without that and without the bits that its further packets carry unread
abbrev pub told_node : Node → Node
told_node n = node_with (told_attrs n.attrs) n.ports 0 0

abbrev pub told_label : Label → Label
told_label a = record { attrs = told_attrs a.attrs; kept_a = 0; kept_b = 0 }

-- a tree of such nodes
abbrev mutual
  pub told_tree : Tree → Tree
  told_tree (branch a s) = branch (told_label a) (told_slots s)

  pub told_slots : Slots → Slots
  told_slots no_more = no_more
  told_slots (absent s) = absent (told_slots s)
  told_slots (unplugged s) = unplugged (told_slots s)
  told_slots (up s) = up (told_slots s)
  told_slots (down t s) = down (told_tree t) (told_slots s)

-- two trees of the same nodes with the same slots, whose slots lead to the same IDs; of the nodes
-- the delays and the bits that further packets carry unread may differ
pub record AreAlikeButHidden (t u : Tree) : Type 0 where
  pub nodes : told_tree t ≡ told_tree u
  pub far_ends : ends t ≡ ends u

-- an ID stands at the end of a slot that is up or down, and nothing at that of another
abbrev pub HasEnd : PortStatus → Option ℕ → Type 0
HasEnd Absent None = Unit {0}
HasEnd Unplugged None = Unit {0}
HasEnd Up (Some id) = id < 64
HasEnd Down (Some id) = id < 64
HasEnd p e = ⊥

abbrev pub HaveEnds : List PortStatus → List (Option ℕ) → Type 0
HaveEnds [] [] = Unit {0}
HaveEnds (p ∷ ps) (e ∷ es) = HasEnd p e × HaveEnds ps es
HaveEnds ps es = ⊥

-- a node that a line can tell of: its ID and its attributes are in range, and each slot has its end
pub record FitsLine (id : ℕ) (n : Node) (es : List (Option ℕ)) : Type 0 where
  pub id_fits : id < 64
  pub attrs : FitBits n.attrs
  pub slots : HaveEnds n.ports es

-- two lines tell of one ID, of nodes with the same attributes but the delay and with the same slots,
-- and of the same ends of these
pub record SaysTheSame (id jd : ℕ) (n m : Node) (es fs : List (Option ℕ)) : Type 0 where
  pub ids : id ≡ jd
  pub nodes : told_node n ≡ told_node m
  pub far_ends : es ≡ fs

-- ---- laws

-- from a node's line its ID, its attributes but the delay, its slots, and the IDs that they lead to
-- can be read back
abbrev pub LinesTellNodes : Type 0
LinesTellNodes =
    (id jd : ℕ) (n m : Node) (es fs : List (Option ℕ)) → FitsLine id n es → FitsLine jd m fs →
    node_line id n es None ≡ node_line jd m fs None → SaysTheSame id jd n m es fs

-- two bus trees with one text are alike but for what no text has
abbrev pub TextsTellTrees : Type 0
TextsTellTrees =
    (standard : Standard) (t u : Tree) → IsBusTreeOf standard t → IsBusTreeOf standard u →
    tree_text t [] ≡ tree_text u [] → AreAlikeButHidden t u

-- and trees that are so alike have one text, with whatever names
abbrev pub AlikeTreesHaveOneText : Type 0
AlikeTreesHaveOneText =
    (t u : Tree) (names : List (List ℕ)) → AreAlikeButHidden t u →
    tree_text t names ≡ tree_text u names

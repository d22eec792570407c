-- The list of a component without a loop is the one that the seen tree emits.
use Rattle.std.proofs.Common.{◌≡◌, ℕ, ◌<◌, ◌≤◌, None, List, ◌++◌, length, map, drop, get_or, Result, Ok, Err, sym, subst, ap, ◌∙◌}
use Rattle.std.specs.Prelude.{All}
use Rattle.self_id.specs.declared.node.Attrs.{Attrs}
use Rattle.self_id.specs.declared.standard.Standard.TheVariants.{Ieee2000}
use Rattle.self_id.specs.Node.{FitBits, IsNode}
use Rattle.topology_stack.specs.Tree.{Tree, IsBusTreeOf, groups, emits}
use Rattle.topology_stack.specs.Answer.{UnlessMemory}
use Rattle.topology_stack.specs.declared.fault.TreeFault.{TreeFault}
use Rattle.topology_stack.specs.declared.fault.TreeStop.{TreeStop}
use Rattle.topology_stack.specs.declared.fault.TreeStop.TheVariants.{Fault}
use Rattle.cabling.specs.declared.visits.Visit.{Visit}
use Rattle.cabling.specs.Wiring.{Wiring, IsCabling}
use Rattle.cabling.specs.Sees.{Sees, SmallTree}
use Rattle.cabling.specs.codings.Visits.{visits, at_root}
use Rattle.cabling.specs.Labels.{labels}
use Rattle.cabling.specs.codings.Shown.{shown_node}
use Rattle.cabling.proofs.Shown.{Good, AllGood, good_at, good_root, good_visits, shown_is_node, bus_seen, list_seen, listed_all, labels_fit}

-- a seen tree, and its visits
pub record Listed (c : Wiring) (attrs : List Attrs) (root : ℕ) (items : List Visit) : Type 0 where
  pub cabling : IsCabling c
  pub there : root < length c
  pub entries : length attrs ≡ length c
  pub valid : All FitBits attrs
  pub small : SmallTree c (labels attrs) root
  pub items_are : items ≡ visits c (at_root root) small.tree

pub good_item : (c : Wiring) (attrs : List Attrs) (root : ℕ) (items : List Visit) (i : ℕ) (d : Visit) →
    Listed c attrs root items → i < length items → Good c (get_or items i d)
good_item c attrs root items i d l less =
    good_at c items i d (subst (λ (vs : List Visit). AllGood c vs) (sym l.items_are) (good_visits c (labels attrs) (at_root root) l.small.tree l.cabling (good_root c root l.there) l.small.seen)) less

pub item_node : (c : Wiring) (attrs : List Attrs) (root : ℕ) (items : List Visit) (i : ℕ) (d : Visit) →
    Listed c attrs root items → i < length items →
    IsNode (shown_node c (labels attrs) (get_or items i d))
item_node c attrs root items i d l less =
    let g = good_item c attrs root items i d l less in
    shown_is_node c (labels attrs) (get_or items i d) l.cabling (labels_fit c attrs l.entries l.valid) g.there g.few

pub tree_is_bus : (c : Wiring) (attrs : List Attrs) (root : ℕ) (items : List Visit) (l : Listed c attrs root items) →
    IsBusTreeOf Ieee2000 l.small.tree
tree_is_bus c attrs root items l = bus_seen c (labels attrs) root l.small.tree l.cabling (labels_fit c attrs l.entries l.valid) l.there l.small.seen l.small.few

pub list_is : (c : Wiring) (attrs : List Attrs) (root : ℕ) (items : List Visit) (i : ℕ) (quads : List ℕ) (l : Listed c attrs root items) →
    length items ≤ i →
    quads ++ groups i (map (shown_node c (labels attrs)) (drop i items)) ≡ groups 0 (map (shown_node c (labels attrs)) items) →
    emits l.small.tree ≡ quads
list_is c attrs root items i quads l le all =
    list_seen c (labels attrs) root l.small.tree l.cabling l.there l.small.seen
    ∙ ap (λ (vs : List Visit). groups 0 (map (shown_node c (labels attrs)) vs)) (sym l.items_are)
    ∙ sym (listed_all (shown_node c (labels attrs)) items i quads (groups 0 (map (shown_node c (labels attrs)) items)) le all)

abbrev ok_tree : Tree → Result Tree TreeStop
ok_tree t = Ok t

same_tree : (t u : Tree) → ok_tree t ≡ ok_tree u → t ≡ u
same_tree t u e = cc

-- the tree that is read is the seen one
pub read_seen : (c : Wiring) (attrs : List Attrs) (root : ℕ) (items : List Visit) (t : Tree) (l : Listed c attrs root items) →
    UnlessMemory (ok_tree t) (Ok l.small.tree) → Sees c (labels attrs) root None t
read_seen c attrs root items t l e = subst (λ (u : Tree). Sees c (labels attrs) root None u) (sym (same_tree t l.small.tree e)) l.small.seen

apart : (f : TreeFault) (t : Tree) → Err (Fault f) ≡ ok_tree t → ⊥
apart f t e = cc

pub no_fault : (r : Result Tree TreeStop) (x : TreeStop) (f : TreeFault) (t : Tree) → r ≡ Err x →
    x ≡ Fault f → UnlessMemory r (Ok t) → ⊥
no_fault r x f t e is u = apart f t (subst (λ (y : Result Tree TreeStop). UnlessMemory y (Ok t)) (e ∙ ap (λ (y : TreeStop). Err y) is) u)

-- How many nodes a list shows that is refused.
use Rattle.std.proofs.Common.{◌≡◌, ℕ, ◌+◌, ◌<◌, ◌≤◌, List, [], ◌∷◌, ◌++◌, length, refl, ap, ◌∙◌, arith, length-append}
use Rattle.self_id.specs.declared.fault.GroupFault.TheVariants.{NotSelfId, WrongId, BadOrder, Cut, TwoParents}
use Rattle.self_id.specs.declared.standard.Standard.{Standard}
use Rattle.self_id.specs.Node.{Node, IsNode}
use Rattle.self_id.specs.Group.{group, node_count}
use Rattle.self_id.proofs.Lemmas.{node_count-append, node_count-group}
use Rattle.topology_stack.specs.declared.fault.TreeFault.{TreeFault}
use Rattle.topology_stack.specs.declared.fault.TreeFault.TheVariants.{Group, Empty, TooFewChildren, TreesLeft, AfterRoot, NoRoot, TooMany}
use Rattle.topology_stack.specs.Tree.{Tree, branch, Slots, no_more, absent, unplugged, up, down, walk, walk_below, node_of, IsPart, AreParts, IsWhole, IsBusTreeOf, groups, emits}
use Rattle.topology_stack.specs.Forest.{AreWaiting, walks, Forest}
use Rattle.topology_stack.specs.Refused.{Refused, GroupNext}
use Rattle.topology_stack.proofs.Lemmas.{some_node}
use Rattle.flawed_capture.specs.Flaw.{of_tree, least_nodes}

-- each of these is a node that packets can show
abbrev pub AreShown : List Node → Type 0
AreShown [] = Unit {0}
AreShown (n ∷ ns) = IsNode n × AreShown ns

shown-append : (ms ns : List Node) → AreShown ms → AreShown ns → AreShown (ms ++ ns)
shown-append [] ns a b = b
shown-append (m ∷ ms) ns a b = (a.0, shown-append ms ns a.1 b)

mutual
  part_shown : (t : Tree) → IsPart t → AreShown (walk t)
  part_shown (branch a s) h = shown-append (walk_below s) (node_of a s ∷ []) (parts_shown s h.2) (h.0, tt)

  parts_shown : (s : Slots) → AreParts s → AreShown (walk_below s)
  parts_shown no_more h = tt
  parts_shown (absent s) h = parts_shown s h
  parts_shown (unplugged s) h = parts_shown s h
  parts_shown (up s) h = parts_shown s h
  parts_shown (down t s) h = shown-append (walk t) (walk_below s) (part_shown t h.0) (parts_shown s h.1)

waiting_shown : (ts : List Tree) → AreWaiting ts → AreShown (walks ts)
waiting_shown [] h = tt
waiting_shown (t ∷ ts) h = shown-append (walks ts) (walk t) (waiting_shown ts h.1) (part_shown t h.0)

node_count-groups : (id : ℕ) (ns : List Node) → AreShown ns → id + length ns ≤ 63 →
    node_count (groups id ns) ≡ length ns
node_count-groups id [] each few = refl
node_count-groups id (n ∷ ns) each few =
    let rest = node_count-groups (id + 1) ns each.1 (omega arith) in
    let first = node_count-group n id each.0.form (omega arith) in
    node_count-append (group n id) (groups (id + 1) ns) ∙ (rw (first, rest) (omega arith))

-- a list that shows a node has a quadlet
some_quad : (l : List ℕ) → 0 < node_count l → 0 < length l
some_quad [] some = omega (arith, some)
some_quad (q ∷ l) some = omega arith

pub whole_shown : (t : Tree) → IsWhole t → AreShown (walk t)
whole_shown (branch a s) h = shown-append (walk_below s) (node_of a s ∷ []) (parts_shown s h.2) (h.0, tt)

-- so that of a bus tree has one
pub some_emitted : (standard : Standard) (t : Tree) → IsBusTreeOf standard t → 0 < length (emits t)
some_emitted standard t bus =
    let counted = node_count-groups 0 (walk t) (whole_shown t bus.bus.whole) (omega (arith, bus.bus.small)) in
    some_quad (emits t) (omega (arith, counted, some_node t))

-- the nodes of trees that wait are all shown
node_count-forest : (standard : Standard) (ts : List Tree) (front : List ℕ) → Forest standard ts front →
    length (walks ts) ≤ 63 → node_count front ≡ length (walks ts)
node_count-forest standard ts front f few = ap node_count f.emitted ∙ node_count-groups 0 (walks ts) (waiting_shown ts f.waiting) (omega arith)

-- each tree has a node
length-walks : (ts : List Tree) → length ts ≤ length (walks ts)
length-walks [] = omega arith
length-walks (t ∷ ts) = omega (arith, length-walks ts, some_node t, length-append (walks ts) (walk t))

-- the trees that wait, and then the next node
node_count-next : (standard : Standard) (l : List ℕ) (ts : List Tree) (n : Node) (at found wanted : ℕ) →
    GroupNext standard l ts n at found wanted → found + 1 ≤ node_count l
node_count-next standard l ts n at found wanted next =
    let few : length (walks ts) ≤ 62 = next.goes_on.few in
    let front = node_count-forest standard ts next.front next.goes_on.forest (omega arith) in
    let own = group n (length (walks ts)) in
    let one = node_count-group n (length (walks ts)) next.is_node.form (omega arith) in
    let back = node_count-append own next.rest in
    let all : node_count l ≡ node_count next.front + node_count (own ++ next.rest) = ap node_count next.goes_on.parts ∙ node_count-append next.front (own ++ next.rest) in
    omega (arith, front, one, back, all, next.found_is, length-walks ts)

pub few_have_none : (standard : Standard) (l : List ℕ) (f : TreeFault) → Refused standard l f →
    least_nodes (of_tree f) ≤ node_count l
few_have_none standard l (Group (NotSelfId at)) h = omega arith
few_have_none standard l (Group (WrongId at found wanted)) h = omega arith
few_have_none standard l (Group (BadOrder at)) h = omega arith
few_have_none standard l (Group (Cut at)) h = omega arith
few_have_none standard l (Group (TwoParents at)) h = omega arith
few_have_none standard l Empty h = omega arith
few_have_none standard l (TooFewChildren at found wanted) h = omega arith
few_have_none standard l (TreesLeft at found wanted) (ts, n, next, no_ups, fewer) =
    omega (arith, node_count-next standard l ts n at found wanted next, fewer)
few_have_none standard l (AfterRoot at) h = omega arith
few_have_none standard l (NoRoot at) h = omega arith
few_have_none standard l (TooMany at) (ts, front, rest, goes_on, all) =
    let front_has = node_count-forest standard ts front goes_on.forest (omega (arith, all)) in
    let both = ap node_count goes_on.parts ∙ node_count-append front rest in
    omega (arith, all, front_has, both)

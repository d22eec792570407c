-- Below a root that knows its tree the walk is there.
use Rattle.std.proofs.Common.{◌≡◌, ◌≢◌, ◌⊎◌, ℕ, zero, suc, ◌+◌, ◌^◌, ◌<◌, ◌≤◌, false, not, Option, Some, None, ◌++◌, length, get_or, slice_get, inl, inr, refl, sym, subst, ap, ◌∙◌, arith}
use Rattle.std.proofs.lemmas.Bool.{cases_lt, not-false}
use Rattle.std.proofs.lemmas.Option.{slice_get_within, slice_get-get_or}
use Rattle.outcomes.proofs.Common.{contrary, Node, group, node_count, Tree, End, ports_of, far, Holds, IsComponent, IsCore, labels, end_at, shared, Loopless, plugged, numbers, ParentsAre, mark, Marked, emit, is_port, own_group, PortNode, CableWorld, is_before_tree, leads_down, IsLawful, attrs_now, joined-of, in-component, no-root-with-loop, is-port, port-is-not, cable-connected, child-if, late-roles, port-is, IsChildCable, IsAcyclic, ResetsAreOverIn, IsRoot, parent_of, parent_now, place_now, RootWalk}
use Rattle.cabling.proofs.Lemmas.{shown_node, loopless, small_tree}
use Rattle.cabling.specs.Sees.{SmallTree}
use Rattle.outcomes.specs.Parents.{LeadDown}
use Rattle.outcomes.specs.Emit.{EmitsByNode}
use Rattle.outcomes.proofs.walks.Parents.{parents-from-above}
use Rattle.outcomes.proofs.walks.Marked.{tree-marked}
use Rattle.outcomes.proofs.walks.Emit.{emits-by-node}
use Rattle.outcomes.proofs.walks.Rising.{level}
use Rattle.outcomes.proofs.walks.WaysUp.{tree-ways}
use Rattle.outcomes.proofs.walks.InTurn.{ready-first}
use Rattle.port_state.proofs.Lemmas.{node_count-own_group}
use Rattle.convergence.specs.Cables.{AreJoined}
use Rattle.convergence.proofs.Lemmas.{down-in, rooted-late}
use Rattle.outcomes.proofs.roots.OwnGroups.{shown-by-label}
use Rattle.self_id.proofs.Lemmas.{node_count-append}

rest-of : (p q : ℕ) → p ≤ q → (d : ℕ) × (q ≡ p + d)
rest-of zero q le = (q, omega arith)
rest-of (suc p) zero le = absurd (omega (arith, le))
rest-of (suc p) (suc q) le = let r = rest-of p q (omega (arith, le)) in (r.0, omega (arith, r.1))

module _
    (w : CableWorld) (l : IsLawful w) (acyclic : IsAcyclic w) (node set : ℕ)
    (over : ResetsAreOverIn w set) (core root : ℕ) (comp : IsComponent w.cabling node set)
    (is_core : IsCore w.cabling set core) (small : set < 2 ^ 63) (has : Holds set root)
    (r : IsRoot w root) where
  there : root < length w.cabling
  there = omega (arith, slice_get_within w.nodes root r.node r.at, l.well_formed.count)

  pub ground-less : Loopless w.cabling root set
  ground-less = loopless w.cabling root set core l.well_formed.cabling there (shared w.cabling node root set l.well_formed.cabling comp has) small is_core (λ k h. no-root-with-loop w l set over acyclic node core root k comp is_core h has r)

  late :
      (k : ℕ) (x : PortNode) → Holds set k → slice_get w.nodes k ≡ Some x →
      is_before_tree x.state.view.phase ≡ false
  late k x h at = rooted-late w l set over node root comp has r k x h at

  -- a port that isn't the parent port leads down a child cable
  child-cable :
      (k p : ℕ) (b : End) → Holds set k → far w.cabling (end_at k p) ≡ Some b →
      parent_now w k ≢ Some p → IsChildCable w (end_at k p) b
  child-cable k p b h j ne =
      let n : AreJoined w (end_at k p) b = joined-of w (end_at k p) b l.well_formed j in
      let off : is_port n.near.state.view.parent p ≡ false = port-is-not n.near.state.view.parent p (λ e. ne (ap parent_of n.near_at ∙ e)) in
      down-in w l set over (end_at k p) b h j (record { node = n.near; at = n.near_at; late = late k n.near h n.near_at }) off

  down : LeadDown w.cabling set root (parent_now w)
  down = record {
    none = ap parent_of r.at ∙ r.parentless;
    others = λ k p b h j ne. let c : IsChildCable w (end_at k p) b = child-cable k p b h j ne in ap parent_of c.below_at ∙ port-is c.below.state.view.parent b.port c.parent;
  }

  seen : SmallTree w.cabling (labels (attrs_now w)) root
  seen = small_tree w.cabling (labels (attrs_now w)) root set ground-less

  parents : ParentsAre w.cabling (parent_now w) root None seen.tree
  parents = parents-from-above w.cabling (labels (attrs_now w)) (parent_now w) root set seen.tree ground-less seen.seen down

  marked :
      Marked w.cabling (parent_now w) set root (numbers w.cabling root seen.tree)
      (mark w.cabling root seen.tree 0)
  marked = tree-marked w.cabling (labels (attrs_now w)) (parent_now w) root set seen.tree ground-less seen.seen parents

  by-node :
      EmitsByNode w.cabling (labels (attrs_now w)) (parent_now w)
      set root seen.tree (mark w.cabling root seen.tree 0)
  by-node = emits-by-node w.cabling (labels (attrs_now w)) (parent_now w) root set seen.tree ground-less seen.seen parents

  -- a child port isn't the parent port
  onward : (a b : End) → Holds set a.node → IsChildCable w a b → parent_now w a.node ≢ Some a.port
  onward a b h c same =
      let is : c.above.state.view.parent ≡ Some a.port = sym (ap parent_of c.above_at) ∙ same in
      let not-child = child-if c.above.state.view.parent c.above.state.view.ports a.port (late-roles c.above.state (l.well_formed.nodes a.node c.above c.above_at).valid (late a.node c.above h c.above_at)) (cable-connected w a b c.above l.well_formed c.joined c.above_at) in
      contrary c.child (not-child ∙ ap not (is-port c.above.state.view.parent a.port is))

  along :
      (a b : End) → Holds set a.node → IsChildCable w a b →
      (mark w.cabling root seen.tree 0 b.node 0 ≡ mark w.cabling root seen.tree 0 a.node a.port)
      × (mark w.cabling root seen.tree 0 a.node (a.port + 1) ≡ place_now w root seen.tree b.node + 1)
  along a b h c = (marked.enters a.node a.port b h c.joined (onward a b h c), marked.leaves a.node a.port b h c.joined (onward a b h c))

  last :
      (k : ℕ) (x : PortNode) → slice_get w.nodes k ≡ Some x →
      mark w.cabling root seen.tree 0 k x.state.ports ≡ place_now w root seen.tree k
  last k x at = let n : length (ports_of w.cabling k) ≡ x.state.ports = (l.well_formed.nodes k x at).ports in ap (mark w.cabling root seen.tree 0 k) (sym n)

  -- a port that leads to no child is loose, or the parent port
  idle-port :
      (k p : ℕ) (x : PortNode) → Holds set k → slice_get w.nodes k ≡ Some x →
      leads_down x.state.view.ports p ≡ false → (far w.cabling (end_at k p) ≡ None)
      ⊎ (parent_now w k ≡ Some p)
  idle-port k p x h at off = go (far w.cabling (end_at k p)) refl
    where
      go :
          (o : Option End) → far w.cabling (end_at k p) ≡ o → (far w.cabling (end_at k p) ≡ None)
          ⊎ (parent_now w k ≡ Some p)
      go None e = inl e
      go (Some b) e =
          let role = child-if x.state.view.parent x.state.view.ports p (late-roles x.state (l.well_formed.nodes k x at).valid (late k x h at)) (cable-connected w (end_at k p) b x l.well_formed e at) in
          inr (ap parent_of at ∙ port-is x.state.view.parent p (not-false (is_port x.state.view.parent p) (sym role ∙ off)))

  flat :
      (k p q : ℕ) (x : PortNode) → Holds set k → slice_get w.nodes k ≡ Some x → p ≤ q →
      q ≤ x.state.ports → ((i : ℕ) → p ≤ i → i < q → leads_down x.state.view.ports i ≡ false) →
      mark w.cabling root seen.tree 0 k q ≡ mark w.cabling root seen.tree 0 k p
  flat k p q x h at le most none =
      let d = rest-of p q le in
      let n : length (ports_of w.cabling k) ≡ x.state.ports = (l.well_formed.nodes k x at).ports in
      level w.cabling (parent_now w) set root (numbers w.cabling root seen.tree) (mark w.cabling root seen.tree 0) marked k p d.0 q h d.1 (omega (arith, n, most)) (λ i low high. idle-port k i x h at (none i low high))

  -- each node adds its own group
  next :
      (k : ℕ) (x : PortNode) → Holds set k → slice_get w.nodes k ≡ Some x →
      emit seen.tree (place_now w root seen.tree k + 1)
      ≡ emit seen.tree (place_now w root seen.tree k)
      ++ own_group x.state (place_now w root seen.tree k)
  next k x h at =
      let fits = l.well_formed.nodes k x at in
      let from : parent_now w k ≡ x.state.view.parent = ap parent_of at in
      by-node.next k h ∙ ap (λ (n : Node). emit seen.tree (place_now w root seen.tree k) ++ group n (place_now w root seen.tree k))
      (ap (λ (o : Option ℕ). shown_node w.cabling (labels (attrs_now w)) (record { node = k; from = o })) from ∙ sym (shown-by-label w k x at fits (late-roles x.state fits.valid (late k x h at))))

  -- each node of the component is there
  node-there : (k : ℕ) → Holds set k → k < length w.cabling
  node-there k h = elim (cases_lt k (length w.cabling)) [
    | inl less ↦ less
    | inr more ↦ absurd (in-component w.cabling root set (λ j. j < length w.cabling) l.well_formed.cabling (shared w.cabling node root set l.well_formed.cabling comp has) there there (λ a b e p. (plugged w.cabling b a (l.well_formed.cabling.both_ways a b e)).node) k h (λ less. omega (arith, less, more)))
  ]

  pub node-at : (k : ℕ) → Holds set k → (x : PortNode) × (slice_get w.nodes k ≡ Some x)
  node-at k h = (get_or w.nodes k r.node, slice_get-get_or w.nodes k r.node (omega (arith, node-there k h, l.well_formed.count)))

  counts :
      (m : ℕ) → m ≤ length (numbers w.cabling root seen.tree) → node_count (emit seen.tree m) ≡ m
  counts zero le = refl
  counts (suc m) le =
      let c = marked.covers m (omega (arith, le)) in
      let here : place_now w root seen.tree c.0 ≡ m = c.2 in
      let n = node-at c.0 c.1 in
      let add : emit seen.tree (m + 1) ≡ emit seen.tree m ++ own_group n.0.state m = subst (λ (i : ℕ). emit seen.tree (i + 1) ≡ emit seen.tree i ++ own_group n.0.state i) here (next c.0 n.0 c.1 n.1) in
      let later : suc m ≡ m + 1 = omega arith in
      let one : node_count (own_group n.0.state m) ≡ 1 = node_count-own_group n.0.state m (l.well_formed.nodes c.0 n.0 n.1).valid.bounded (omega (arith, le, seen.few)) in
      ap (λ (i : ℕ). node_count (emit seen.tree i)) later ∙ ap node_count add ∙ node_count-append (emit seen.tree m) (own_group n.0.state m) ∙ omega (arith, counts m (omega (arith, le)), one)

  pub root-walk : (t : Tree) × RootWalk w set root t
  root-walk = (
    seen.tree,
    record {
      seen = seen.seen;
      parents = parents;
      few = seen.few;
      marked = marked;
      along = along;
      flat = flat;
      last = last;
      children = λ k p b h leads. child-cable k p b h leads.joined leads.onward;
      in_turn = λ turn ready order. ready-first w.cabling (parent_now w) set root (numbers w.cabling root seen.tree) (mark w.cabling root seen.tree 0) l.well_formed.cabling comp.closed marked (tree-ways w.cabling (labels (attrs_now w)) (parent_now w) root set seen.tree ground-less seen.seen parents).ups turn ready order;
      none = by-node.none;
      all = ap (λ (n : ℕ). emit seen.tree n) (sym marked.last) ∙ by-node.all;
      next = next;
      counts = counts;
    },
  )

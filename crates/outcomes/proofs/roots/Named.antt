-- Where all nodes below a root are named and have the list, the component has come to a tree.
use Rattle.std.proofs.Common.{◌≡◌, ℕ, ◌^◌, ◌<◌, is_some, Option, Some, None, IsSome, IsSomeAnd, List, length, slice_get, sym, ap, ◌∙◌}
use Rattle.outcomes.proofs.Common.{Tree, emits, End, ports_of, Holds, IsComponent, IsCore, labels, numbers, LeadsUp, mark, Alike, Loopless, PortNode, CableWorld, IsLawful, attrs_now, IsTree, some-at, IsAcyclic, ResetsAreOverIn, IsRoot, parent_of, parent_now, place_now, RootWalk, no-root-with-loop}
use Rattle.outcomes.specs.Alike.{SeenAlike}
use Rattle.cabling.proofs.Lemmas.{one-tree}
use Rattle.outcomes.proofs.walks.WaysUp.{tree-ways}
use Rattle.outcomes.proofs.walks.Alike.{seen-alike}
use Rattle.outcomes.specs.RootWalk.{IsNamed, SameWalk}
use Rattle.outcomes.proofs.roots.RootWalk.{node-at, ground-less}

module _
    (w : CableWorld) (l : IsLawful w) (acyclic : IsAcyclic w) (node set : ℕ)
    (over : ResetsAreOverIn w set) (core root : ℕ) (comp : IsComponent w.cabling node set)
    (is_core : IsCore w.cabling set core) (small : set < 2 ^ 63) (has : Holds set root)
    (r : IsRoot w root) (t : Tree) (walk : RootWalk w set root t) where
  loop-less : Loopless w.cabling root set
  loop-less = ground-less w l acyclic node set over core root comp is_core small has r

  at-node : (k : ℕ) → Holds set k → (x : PortNode) × (slice_get w.nodes k ≡ Some x)
  at-node = node-at w l acyclic node set over core root comp is_core small has r

  has-parent : (o : Option ℕ) (p : ℕ) → o ≡ Some p → IsSome o
  has-parent o p e = ap is_some e

  pub named-tree : IsNamed w set root t → IsTree w set root t
  named-tree named = record {
    no_loop = record { core = core; is_core = is_core; empty = λ k h. no-root-with-loop w l set over acyclic node core root k comp is_core h has r };
    holds_root = has;
    seen = walk.seen;
    no_parent = some-at (slice_get w.nodes root) r.node (λ (x : PortNode). x.state.view.parent ≡ None) r.at r.parentless;
    parents = λ k h ne.
        let n = at-node k h in
        let up : LeadsUp w.cabling (parent_now w) k = (tree-ways w.cabling (labels (attrs_now w)) (parent_now w) root set t loop-less walk.seen walk.parents).ups.others k h ne in
        some-at (slice_get w.nodes k) n.0 (λ (x : PortNode). IsSome x.state.view.parent) n.1 (has-parent n.0.state.view.parent up.port (sym (ap parent_of n.1) ∙ up.is));
    ids = λ k h.
        let n = at-node k h in
        some-at (slice_get w.nodes k) n.0 (λ (x : PortNode). IsSomeAnd x.state.view.id (λ i. slice_get (numbers w.cabling root t) i ≡ Some k)) n.1
        (some-at n.0.state.view.id (place_now w root t k) (λ (i : ℕ). slice_get (numbers w.cabling root t) i ≡ Some k) (named.ids k n.0 h n.1) (walk.marked.at k h));
    lists = λ k h.
        let n = at-node k h in
        some-at (slice_get w.nodes k) n.0 (λ (x : PortNode). x.state.list.items ≡ emits t) n.1 (named.lists k n.0 h n.1);
  }

  -- a world in which the component has the same ports and shows the same attributes has the same
  -- walk
  pub same-walk :
      (v : CableWorld) (u : Tree) → RootWalk v set root u →
      Alike w.cabling v.cabling (labels (attrs_now w)) (labels (attrs_now v)) set →
      SameWalk w v set root t u
  same-walk v u other alike =
      let s : SeenAlike w.cabling v.cabling (labels (attrs_now v)) root t = seen-alike w.cabling v.cabling (labels (attrs_now w)) (labels (attrs_now v)) root set t loop-less walk.seen alike in
      let same : t ≡ u = one-tree v.cabling (labels (attrs_now v)) root None t u s.seen other.seen in
      let marks : (k p : ℕ) → mark w.cabling root t 0 k p ≡ mark v.cabling root u 0 k p = λ k p. s.marks k p ∙ ap (λ (y : Tree). mark v.cabling root y 0 k p) same in
      record {
        tree = same;
        marks = marks;
        places = λ k h. marks k (length (ports_of w.cabling k)) ∙ ap (λ (row : List (Option End)). mark v.cabling root u 0 k (length row)) (alike.ports k h);
      }

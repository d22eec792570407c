-- A component came to a tree exactly where its first node without a parent is the root of one, and each of its nodes
-- shows what it has to in that tree.
use Rattle.std.proofs.Common.{◌≡◌, ℕ, inl, inr, List, Option, None, Some, slice_get, sym, ◌∙◌, ap, subst}
use Rattle.std.specs.Prelude.{IsSome, IsSomeAnd}
use Rattle.std.proofs.lemmas.Bool.{cases_eq}
use Rattle.topology_stack.specs.Tree.{Tree, emits}
use Rattle.port_state.specs.Machine.{PortNode}
use Rattle.cabling.specs.NodeSet.{Holds}
use Rattle.cabling.specs.Labels.{labels}
use Rattle.cabling.specs.Sees.{Sees, numbers}
use Rattle.cabling.proofs.Lemmas.{one-tree}
use Rattle.cable_world.specs.World.{CableWorld}
use Rattle.cable_world.specs.Outcome.{HasNoLoop, IsTree, AtView, AtNode, attrs_now}
use Rattle.settle.specs.Reported.{ReportsTree}
use Rattle.settle.specs.codings.Reading.{ShowsTree, IsTop, AllFit}

-- a node with a parent isn't one without
apart :
    (o : Option PortNode) → IsSomeAnd o (λ x. x.state.view.parent ≡ None) →
    IsSomeAnd o (λ x. IsSome x.state.view.parent) → ⊥
apart None n s = n
apart (Some x) n s = none-some x.state.view.parent n s
  where
    none-some : (p : Option ℕ) → p ≡ None → IsSome p → ⊥
    none-some None n s = absurd cc
    none-some (Some p) n s = absurd cc

-- the root is the one node without a parent
pub root-is :
    (w : CableWorld) (set top root : ℕ) (t : Tree) → Holds set top → IsTop w top → IsTree w set root t → top ≡ root
root-is w set top root t holds is h = elim (cases_eq top root) [
  | inl same ↦ same
  | inr ne ↦ absurd (apart (slice_get w.nodes top) is (h.parents top holds ne))
]

-- where the component came to a tree, all of its nodes fit
pub tree-fits :
    (w : CableWorld) (set top root : ℕ) (list order : List ℕ) (t : Tree) →
    ShowsTree w.cabling (attrs_now w) top list order → Holds set top → IsTop w top → IsTree w set root t →
    AllFit w set top list order
tree-fits w set top root list order t s holds is h k inside =
    let at : top ≡ root = root-is w set top root t holds is h in
    let seen : Sees w.cabling (labels (attrs_now w)) top None t =
    subst (λ (r : ℕ). Sees w.cabling (labels (attrs_now w)) r None t) (sym at) h.seen in
    let same : t ≡ s.tree = one-tree w.cabling (labels (attrs_now w)) top None t s.tree seen s.seen in
    let walked : numbers w.cabling root t ≡ order =
    ap (λ (r : ℕ). numbers w.cabling r t) (sym at) ∙ ap (numbers w.cabling top) same ∙ sym s.walked in
    let emitted : emits t ≡ list = ap emits same ∙ sym s.emitted in
    record {
      parent = λ ne. h.parents k inside (λ e. ne (e ∙ sym at));
      id = subst (λ (o : List ℕ). AtView w k (λ v. IsSomeAnd v.id (λ i. slice_get o i ≡ Some k))) walked (h.ids k inside);
      has_list = subst (λ (l : List ℕ). AtNode w k (λ x. x.state.list.items ≡ l)) emitted (h.lists k inside);
    }

-- and where they fit, it did
pub fits-tree :
    (w : CableWorld) (set top : ℕ) (list order : List ℕ) → HasNoLoop w set →
    ShowsTree w.cabling (attrs_now w) top list order → Holds set top → IsTop w top → AllFit w set top list order →
    ReportsTree w set top list order
fits-tree w set top list order no_loop s holds is fit = record {
  tree = s.tree;
  is = record {
    no_loop = no_loop;
    holds_root = holds;
    seen = s.seen;
    no_parent = is;
    parents = λ k inside ne. (fit k inside).parent ne;
    ids = λ k inside. subst (λ (o : List ℕ). AtView w k (λ v. IsSomeAnd v.id (λ i. slice_get o i ≡ Some k))) s.walked (fit k inside).id;
    lists = λ k inside. subst (λ (l : List ℕ). AtNode w k (λ x. x.state.list.items ≡ l)) s.emitted (fit k inside).has_list;
  };
  emitted = s.emitted;
  walked = s.walked;
}

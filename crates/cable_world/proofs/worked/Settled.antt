-- From what the nodes of a component show, one by one, to its outcome.
use Rattle.std.proofs.Common.{◌≡◌, ◌≢◌, inl, inr, ℕ, List, [], ◌∷◌, map, Option, Some, None, slice_get, subst, sym}
use Rattle.std.specs.Prelude.{IsSome, IsSomeAnd}
use Rattle.std.proofs.lemmas.Option.{slice_get-map}
use Rattle.self_id.specs.declared.node.Attrs.{Attrs}
use Rattle.topology_stack.specs.Tree.{Label, Tree, emits}
use Rattle.port_state.specs.Machine.{PortNode}
use Rattle.cabling.specs.Wiring.{Wiring}
use Rattle.cabling.specs.NodeSet.{Holds}
use Rattle.cabling.specs.Looped.{IsCore}
use Rattle.cabling.specs.Labels.{labels}
use Rattle.cabling.specs.Sees.{Sees, numbers}
use Rattle.cabling.proofs.Lemmas.{none_of_zero, In, set_of, from_set, seen_core}
use Rattle.cable_world.specs.World.{CableWorld}
use Rattle.cable_world.proofs.Options.{some-and, unmapped}
use Rattle.cable_world.proofs.worked.Summary.{Summary, summary_of}
use Rattle.cable_world.specs.Outcome.{AtNode, HasNoLoop, attrs_now, IsTree}

-- a fact of each number of a list
abbrev pub Each : (ℕ → Type 0) → List ℕ → Type 0
Each P [] = Unit {0}
Each P (x ∷ xs) = P x × Each P xs

each-in : (P : ℕ → Type 0) (xs : List ℕ) (x : ℕ) → Each P xs → In x xs → P x
each-in P [] x e i = absurd i
each-in P (y ∷ ys) x e (inl same) = subst P (sym same) e.0
each-in P (y ∷ ys) x e (inr rest) = each-in P ys x e.1 rest

-- of each node of the set of these numbers
pub each-held :
    (P : ℕ → Type 0) (set : ℕ) (xs : List ℕ) → set ≡ set_of xs → Each P xs → (k : ℕ) → Holds set k →
    P k
each-held P set xs s e k h = each-in P xs k e (from_set xs k (subst (λ (n : ℕ). Holds n k) s h))

-- where a tree is seen no loop is
pub no-core :
    (c : Wiring) (label : ℕ → Label) (root set : ℕ) (t : Tree) → Sees c label root None t →
    set ≡ set_of (numbers c root t) → IsCore c set 0
no-core c label root set t h s = seen_core c label root set t h (λ x i. from_set (numbers c root t) x (subst (λ (n : ℕ). Holds n x) s i))

pub no-loop :
    (w : CableWorld) (c : Wiring) (set : ℕ) → w.cabling ≡ c → IsCore c set 0 → HasNoLoop w set
no-loop w c set e h = record { core = 0; is_core = rw e h; empty = none_of_zero }

pub at-node :
    (w : CableWorld) (k : ℕ) (P Q : PortNode → Type 0) → ((x : PortNode) → P x → Q x) →
    AtNode w k P → AtNode w k Q
at-node w k P Q f h = some-and (slice_get w.nodes k) P Q f h

-- what is said of every node holds of the node of a number
pub said :
    {A : Type 0} → (w : CableWorld) (say : PortNode → A) (rows : List A) (k : ℕ) (P : A → Type 0) →
    map say w.nodes ≡ rows → IsSomeAnd (slice_get rows k) P → AtNode w k (λ x. P (say x))
said {A = A} w say rows k P e h =
    unmapped (slice_get w.nodes k) say P
    (subst (λ (o : Option A). IsSomeAnd o P) (slice_get-map say w.nodes k) (subst (λ (r : List A). IsSomeAnd (slice_get r k) P) (sym e) h))

-- what a tree that is seen from a root gives the node of this number
abbrev pub Given : Wiring → ℕ → Tree → ℕ → Summary → Type 0
Given c root t k r = (k ≢ root → IsSome r.parent) × IsSomeAnd r.id (λ i. slice_get (numbers c root t) i ≡ Some k) × (r.list ≡ emits t)

-- A component settles to a tree where its nodes tell what the tree gives them. The world is looked
-- at three times, at its cables, its nodes' attributes, and what they tell.
pub tree-settled :
    (w : CableWorld) (set root : ℕ) (t : Tree) (c : Wiring) (attrs : List Attrs) (rows : List Summary) →
    w.cabling ≡ c → attrs_now w ≡ attrs → map summary_of w.nodes ≡ rows →
    set ≡ set_of (numbers c root t) → Holds set root → Sees c (labels attrs) root None t →
    IsSomeAnd (slice_get rows root) (λ r. r.parent ≡ None) →
    Each (λ k. IsSomeAnd (slice_get rows k) (λ r. Given c root t k r)) (numbers c root t) →
    IsTree w set root t
tree-settled w set root t c attrs rows cables now tells s here seen top each = record {
  no_loop = no-loop w c set cables (no-core c (labels attrs) root set t seen s);
  holds_root = here;
  seen = rw (cables, now) seen;
  no_parent = said w summary_of rows root (λ r. r.parent ≡ None) tells top;
  parents = λ k h ne. at-node w k (λ x. Given c root t k (summary_of x)) (λ x. IsSome x.state.view.parent) (λ x g. g.0 ne) (given k h);
  ids = λ k h. rw cables (at-node w k (λ x. Given c root t k (summary_of x)) (λ x. IsSomeAnd x.state.view.id (λ i. slice_get (numbers c root t) i ≡ Some k)) (λ x g. g.1) (given k h));
  lists = λ k h. at-node w k (λ x. Given c root t k (summary_of x)) (λ x. x.state.list.items ≡ emits t) (λ x g. g.2) (given k h);
}
  where
    given : (k : ℕ) → Holds set k → AtNode w k (λ x. Given c root t k (summary_of x))
    given k h = said w summary_of rows k (λ r. Given c root t k r) tells (each-held (λ k. IsSomeAnd (slice_get rows k) (λ r. Given c root t k r)) set (numbers c root t) s each k h)

-- The greatest number that a node of a set has is found from node to node.
use Rattle.std.proofs.Common.{◌≡◌, ◌+◌, ℕ, ◌<◌, ◌≤◌, max, inl, inr, Option, None, Some, slice_get, sym, ◌∙◌, subst, arith}
use Rattle.std.specs.Prelude.{IsSomeAnd}
use Rattle.std.proofs.lemmas.Bool.{cases_lt, cases_eq}
use Rattle.std.proofs.lemmas.Option.{same_Some}
use Rattle.cabling.specs.NodeSet.{Holds}
use Rattle.port_state.specs.Machine.{PortNode}
use Rattle.cable_world.specs.World.{CableWorld, NodeNumber, NodeSet}
use Rattle.settle.specs.Report.{IsGreatest, Drew, LastChanged}

-- a node has the number, and no node below another has a greater one
pub record Highest (set : NodeSet) (IsOf : NodeNumber → ℕ → Type 0) (below : NodeNumber) (most : ℕ) : Type 0 where
  pub node : NodeNumber
  pub holds : Holds set node
  pub reached : IsOf node most
  pub bound : (k : NodeNumber) (n : ℕ) → k < below → Holds set k → IsOf k n → n ≤ most

-- a node has one number
abbrev pub HasOne : (NodeNumber → ℕ → Type 0) → Type 0
HasOne IsOf = (k : NodeNumber) (m n : ℕ) → IsOf k m → IsOf k n → m ≡ n

-- the next node is in the set, and has this number
pub highest-in :
    (set : NodeSet) (IsOf : NodeNumber → ℕ → Type 0) (k : NodeNumber) (most n new : ℕ) → HasOne IsOf →
    Highest set IsOf k most → Holds set k → IsOf k n → new ≡ max most n → Highest set IsOf (k + 1) new
highest-in set IsOf k most n new one h holds is e = elim (cases_lt most n) [
  | inl more ↦
      let at : n ≡ new = omega (arith, e, more) in
      record {
        node = k;
        holds = holds;
        reached = subst (IsOf k) at is;
        bound = λ j m below inside of. elim (cases_eq j k) [
          | inl same ↦ omega (arith, at, one k m n (subst (λ (i : ℕ). IsOf i m) same of) is)
          | inr other ↦ omega (arith, at, more, h.bound j m (omega arith) inside of)
        ];
      }
  | inr less ↦
      let at : most ≡ new = omega (arith, e, less) in
      record {
        node = h.node;
        holds = h.holds;
        reached = subst (IsOf h.node) at h.reached;
        bound = λ j m below inside of. elim (cases_eq j k) [
          | inl same ↦ omega (arith, at, less, one k m n (subst (λ (i : ℕ). IsOf i m) same of) is)
          | inr other ↦ omega (arith, at, h.bound j m (omega arith) inside of)
        ];
      }
]

-- it isn't in the set
pub highest-out :
    (set : NodeSet) (IsOf : NodeNumber → ℕ → Type 0) (k : NodeNumber) (most new : ℕ) →
    Highest set IsOf k most → (Holds set k → ⊥) → new ≡ most → Highest set IsOf (k + 1) new
highest-out set IsOf k most new h out e = record {
  node = h.node;
  holds = h.holds;
  reached = subst (IsOf h.node) (sym e) h.reached;
  bound = λ j m below inside of. elim (cases_eq j k) [
    | inl same ↦ absurd (out (subst (Holds set) same inside))
    | inr other ↦ omega (arith, e, h.bound j m (omega arith) inside of)
  ];
}

pub highest-of-all :
    (set : NodeSet) (IsOf : NodeNumber → ℕ → Type 0) (below : NodeNumber) (most : ℕ) →
    ((k : NodeNumber) (n : ℕ) → IsOf k n → k < below) → Highest set IsOf below most → IsGreatest set IsOf most
highest-of-all set IsOf below most there h = record {
  node = h.node;
  holds = h.holds;
  reached = h.reached;
  bound = λ k n holds is. h.bound k n (there k n is) holds is;
}

-- ---- the numbers of a node

one-drawn : (o : Option PortNode) (m n : ℕ) → IsSomeAnd o (λ x. x.state.view.draws ≡ m) →
    IsSomeAnd o (λ x. x.state.view.draws ≡ n) → m ≡ n
one-drawn None m n a b = absurd a
one-drawn (Some x) m n a b = sym a ∙ b

pub drew-one : (w : CableWorld) → HasOne (Drew w)
drew-one w k m n a b = one-drawn (slice_get w.nodes k) m n a b

pub changed-one : (w : CableWorld) → HasOne (LastChanged w)
changed-one w k m n a b = same_Some m n (sym a ∙ b)

-- The neighbours of a node, port by port.
use Rattle.std.proofs.Common.{◌≡◌, ◌≢◌, ℕ, ◌+◌, ◌<◌, ◌≤◌, ◌↔◌, inl, inr, List, length, Option, Some, None, get_or, sym, subst, ap, ◌∙◌, arith}
use Rattle.std.proofs.lemmas.Bool.{cases_eq, cases_lt}
use Rattle.cabling.specs.declared.cable.End.{End}
use Rattle.cabling.specs.Wiring.{Wiring, ports_of, far, IsCabling}
use Rattle.cabling.specs.NodeSet.{Holds}
use Rattle.cabling.specs.Component.{IsNeighbour}
use Rattle.cabling.proofs.Ends.{plugged, one_other, none_some}
use Rattle.cabling.proofs.Bits.{none_of_zero}

abbrev pub end_at : ℕ → ℕ → End
end_at node port = record { node = node; port = port }

-- what stands in a node's row
pub at_row : (c : Wiring) (row : List (Option End)) (node port : ℕ) (x : Option End) →
    row ≡ ports_of c node → get_or row port None ≡ x → far c (end_at node port) ≡ x
at_row c row node port x e at = ap (λ (r : List (Option End)). get_or r port None) (sym e) ∙ at

-- the far end is a node below 63
pub small_far : (c : Wiring) (a b : End) → IsCabling c → far c a ≡ Some b → b.node < 63
small_far c a b is e = omega (arith, (plugged c b a (is.both_ways a b e)).node, is.few_nodes)

-- the nodes to which the ports below a number lead
pub record Near (c : Wiring) (node ports found : ℕ) : Type 0 where
  pub sound : (other : ℕ) → Holds found other → IsNeighbour c node other
  pub all : (port : ℕ) (other : End) → port < ports → far c (end_at node port) ≡ Some other →
      Holds found other.node

pub near_none : (c : Wiring) (node found : ℕ) → found ≡ 0 → Near c node 0 found
near_none c node found e = record {
  sound = λ other h. absurd (none_of_zero other (subst (λ (n : ℕ). Holds n other) e h));
  all = λ port other h f. absurd (omega (arith, h));
}

pub near_one : (c : Wiring) (node port found after : ℕ) (end : End) →
    far c (end_at node port) ≡ Some end → Near c node port found → Holds after end.node →
    ((other : ℕ) → other ≢ end.node → (Holds after other ↔ Holds found other)) →
    Near c node (port + 1) after
near_one c node port found after end e near is others = record {
  sound = λ other h. elim (cases_eq other end.node) [
    | inl same ↦ record { port = port; end = end; joined = e; is = sym same }
    | inr ne ↦ near.sound other ((others other ne).0 h)
  ];
  all = λ p other less f. elim (cases_eq other.node end.node) [
    | inl same ↦ subst (λ (n : ℕ). Holds after n) (sym same) is
    | inr ne ↦ elim (cases_lt p port) [
      | inl below ↦ (others other.node ne).1 (near.all p other below f)
      | inr above ↦
          let same : p ≡ port = omega arith in
          let f_at : far c (end_at node port) ≡ Some other = subst (λ (n : ℕ). far c (end_at node n) ≡ Some other) same f in
          absurd (ne (ap (λ (x : End). x.node) (one_other (far c (end_at node port)) other end f_at e)))
    ]
  ];
}

pub near_loose : (c : Wiring) (node port found : ℕ) → far c (end_at node port) ≡ None →
    Near c node port found → Near c node (port + 1) found
near_loose c node port found e near = record {
  sound = near.sound;
  all = λ p other less f. elim (cases_lt p port) [
    | inl below ↦ near.all p other below f
    | inr above ↦
        let same : p ≡ port = omega arith in
        absurd (none_some (far c (end_at node port)) other e (subst (λ (n : ℕ). far c (end_at node n) ≡ Some other) same f))
  ];
}

pub near_all : (c : Wiring) (node ports found : ℕ) → Near c node ports found →
    length (ports_of c node) ≤ ports → (other : ℕ) → Holds found other ↔ IsNeighbour c node other
near_all c node ports found near all other = (
  near.sound other,
  λ n. subst (λ (x : ℕ). Holds found x) n.is (near.all n.port n.end (omega (arith, all, (plugged c (end_at node n.port) n.end n.joined).port)) n.joined),
)

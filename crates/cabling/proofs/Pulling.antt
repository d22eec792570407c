-- A cable that lies on no core is pulled: no node comes into a core, or out of one.
use Rattle.std.proofs.Common.{◌≡◌, inl, inr, ◌↔◌, ℕ, Some, sym, ap, ◌∙◌, subst, bit_and}
use Rattle.cabling.specs.declared.cable.End.{End}
use Rattle.cabling.specs.Wiring.{Wiring, far, IsCabling}
use Rattle.cabling.specs.NodeSet.{Holds, IsWithin}
use Rattle.cabling.specs.Component.{IsComponent}
use Rattle.cabling.specs.Looped.{HasTwo, IsLooped, IsCore, IsCoreOf, LiesOnCore}
use Rattle.cabling.specs.Change.{TakenOut}
use Rattle.cabling.proofs.Bits.{in_both}
use Rattle.cabling.proofs.Ends.{cases_end, none_some, one_other}
use Rattle.cabling.proofs.Near.{end_at}
use Rattle.cabling.proofs.Whole.{shared}

-- ---- the cables that are left

pub was-there : (old new : Wiring) (a b : End) → TakenOut old new a b → (e o : End) →
    far new e ≡ Some o → far old e ≡ Some o
was-there old new a b t e o h = elim (cases_end e a) [
  | inl is ↦ absurd (none_some (far new e) o (ap (far new) is ∙ t.free_a) h)
  | inr not_a ↦ elim (cases_end e b) [
    | inl is ↦ absurd (none_some (far new e) o (ap (far new) is ∙ t.free_b) h)
    | inr not_b ↦ sym (t.others.others e not_a not_b) ∙ h
  ]
]

-- a cable between two nodes of a set stays, if not both ends of the pulled one are in the set
still-there : (old new : Wiring) (a b : End) (set : ℕ) → IsCabling old → TakenOut old new a b →
    (Holds set a.node → Holds set b.node → ⊥) → (e o : End) → far old e ≡ Some o →
    Holds set e.node → Holds set o.node → far new e ≡ Some o
still-there old new a b set is t apart e o h near other = elim (cases_end e a) [
  | inl at_a ↦
      let end : o ≡ b = one_other (far old a) o b (ap (far old) (sym at_a) ∙ h) t.joined in
      absurd (apart (subst (λ (x : End). Holds set x.node) at_a near) (subst (λ (x : End). Holds set x.node) end other))
  | inr not_a ↦ elim (cases_end e b) [
    | inl at_b ↦
        let end : o ≡ a = one_other (far old b) o a (ap (far old) (sym at_b) ∙ h) (is.both_ways a b t.joined) in
        absurd (apart (subst (λ (x : End). Holds set x.node) end other) (subst (λ (x : End). Holds set x.node) at_b near))
    | inr not_b ↦ t.others.others e not_a not_b ∙ h
  ]
]

-- ---- looped sets

-- two cables into a set are two cables into another, where those cables are there too and lead into it
two-again : (c d : Wiring) (set other node : ℕ) →
    ((port : ℕ) (o : End) → far c (end_at node port) ≡ Some o → Holds set o.node → (far d (end_at node port) ≡ Some o) × Holds other o.node) →
    HasTwo c set node → HasTwo d other node
two-again c d set other node f h = record {
  low = h.low;
  high = h.high;
  apart = h.apart;
  low_leads = let g = f h.low h.low_leads.0 h.low_leads.1 h.low_leads.2 in (h.low_leads.0, g.0, g.1);
  high_leads = let g = f h.high h.high_leads.0 h.high_leads.1 h.high_leads.2 in (h.high_leads.0, g.0, g.1);
}

-- a core is looped
core-looped : (c : Wiring) (set core : ℕ) → IsCore c set core → IsLooped c core
core-looped c set core is node h =
    let p = (is node).0 h in
    two-again c c p.0 core node (λ port o e i. (e, (is o.node).1 (p.0, p.1, p.2, i))) (p.2 node p.3)

-- ---- the pull

-- what was in the core, and is still in the component, is in the core
stays-in : (old new : Wiring) (a b : End) (node before after : ℕ) → IsCabling old →
    TakenOut old new a b → (LiesOnCore old a b → ⊥) → IsCoreOf old node before →
    IsCoreOf new node after → Holds before node → Holds after node
stays-in old new a b node before after is t off x y h =
    let apart : Holds before a.node → Holds before b.node → ⊥ = λ near other.
    let p = (x.is a.node).0 near in
    let whole : IsComponent old a.node x.component = shared old node a.node x.component is x.of_node (p.1 a.node p.3) in
    off (record { core = before; of_near = record { component = x.component; of_node = whole; is = x.is }; near = near; other = other }) in
    let both : ℕ = bit_and before y.component in
    (y.is node).1 (
      both,
      (λ k i. ((in_both before y.component k).0 i).1),
      (λ k i.
          let in_k = (in_both before y.component k).0 i in
          two-again old new before both k
          (λ port o e j.
          let there : far new (end_at k port) ≡ Some o = still-there old new a b before is t apart (end_at k port) o e in_k.0 j in
          (there, (in_both before y.component o.node).1 (j, y.of_node.closed (end_at k port) o there in_k.1)))
          (core-looped old x.component before x.is k in_k.0)),
      (in_both before y.component node).1 (h, y.of_node.holds),
    )

-- and what is in the core was in it
was-in : (old new : Wiring) (a b : End) (node before after : ℕ) → TakenOut old new a b →
    IsCoreOf old node before → IsCoreOf new node after → Holds after node → Holds before node
was-in old new a b node before after t x y h =
    let p = (y.is node).0 h in
    let smaller : IsWithin y.component x.component = y.of_node.least x.component x.of_node.holds (λ e o there. x.of_node.closed e o (was-there old new a b t e o there)) in
    (x.is node).1 (
      p.0,
      (λ k i. smaller k (p.1 k i)),
      (λ k i. two-again new old p.0 p.0 k (λ port o e j. (was-there old new a b t (end_at k port) o e, j)) (p.2 k i)),
      p.3,
    )

pub same-core : (old new : Wiring) (a b : End) (node before after : ℕ) → IsCabling old →
    TakenOut old new a b → (LiesOnCore old a b → ⊥) → IsCoreOf old node before →
    IsCoreOf new node after → Holds before node ↔ Holds after node
same-core old new a b node before after is t off x y = (stays-in old new a b node before after is t off x y, was-in old new a b node before after t x y)

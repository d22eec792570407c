-- What happens between turns only takes child cables away.
use Rattle.std.proofs.Common.{◌≡◌, inl, inr, ℕ, true, Some, slice_get, sym, ap, subst, arith}
use Rattle.convergence.proofs.Common.{End, far, is_port, PortNode, CableWorld, hold, is_before_tree, leads_down, IsLawful, not-both, IsChildCable, IsAcyclic, contrary}
use Rattle.port_state.specs.Config.{ConfigPacket}
use Rattle.port_state.specs.Machine.{node_set_config}
use Rattle.cable_world.specs.declared.act.Act.{Act}
use Rattle.cable_world.specs.World.{IsPowerOnWorld}
use Rattle.cable_world.specs.Act.{change_in_set, note_changes, Acted}
use Rattle.cable_world.proofs.Lemmas.{power-on-apart, not-leading, Happens, Acting, acting, each-kept, none-some}
use Rattle.convergence.proofs.turns.Roles.{early-parentless}

-- the second world's child cables are child cables of the first
abbrev NoMore : CableWorld → CableWorld → Type 0
NoMore w v = (a b : End) → IsChildCable v a b → IsChildCable w a b

no-more-acyclic : (w v : CableWorld) → NoMore w v → IsAcyclic w → IsAcyclic v
no-more-acyclic w v h c = record { rank = c.rank; most = c.most; bounded = c.bounded; falls = λ a b e. c.falls a b (h a b e) }

happens-no-more : (w v : CableWorld) → Happens w v → NoMore w v
happens-no-more w v h a b e = elim (h.ends a b e.above e.joined e.above_at) [
  | inl s ↦ absurd (not-both (leads_down e.above.state.view.ports a.port) e.child (not-leading e.above.state a.port s.begun (h.after.nodes a.node e.above e.above_at).valid))
  | inr s ↦ elim (h.nodes b.node e.below e.below_at) [
    | inl begun ↦ contrary e.parent (ap (λ o. is_port o b.port) (early-parentless e.below.state (h.after.nodes b.node e.below e.below_at).valid (ap is_before_tree begun.phase)))
    | inr was ↦ record { joined = s.cable; above = e.above; above_at = s.node; child = e.child; below = e.below; below_at = was; parent = e.parent }
  ]
]

-- ---- configuration packets

told-no-more :
    (set : ℕ) (packet : ConfigPacket) (w : CableWorld) →
    NoMore w (record w { nodes = change_in_set set (node_set_config packet) 0 w.nodes })
told-no-more set packet w a b e =
    let change : PortNode → PortNode = node_set_config packet in
    let Above : PortNode → Type 0 = λ x. leads_down x.state.view.ports a.port ≡ true → (y : PortNode) × (slice_get w.nodes a.node ≡ Some y) × (leads_down y.state.view.ports a.port ≡ true) in
    let Below : PortNode → Type 0 = λ x. is_port x.state.view.parent b.port ≡ true → (y : PortNode) × (slice_get w.nodes b.node ≡ Some y) × (is_port y.state.view.parent b.port ≡ true) in
    let above = each-kept set change w.nodes a.node Above (λ x h. h) (λ x at c. (x, at, c)) e.above e.above_at e.child in
    let below = each-kept set change w.nodes b.node Below (λ x h. h) (λ x at c. (x, at, c)) e.below e.below_at e.parent in
    record { joined = e.joined; above = above.0; above_at = above.1; child = above.2; below = below.0; below_at = below.1; parent = below.2 }

-- ---- acts, holds, power-on

noted-no-more : (w u : CableWorld) → NoMore u (note_changes w u)
noted-no-more w u a b e = record { joined = e.joined; above = e.above; above_at = e.above_at; child = e.child; below = e.below; below_at = e.below_at; parent = e.parent }

pub act-acyclic :
    (a : Act) (w v : CableWorld) → Acted a w v → IsLawful w → IsAcyclic w → IsAcyclic v
act-acyclic a w v did l c =
    let t : Acting w v = acting a w v did l.well_formed in
    let told : IsAcyclic t.told = elim t.hears [
      | inl same ↦ subst IsAcyclic (sym same) c
      | inr h ↦ subst IsAcyclic (sym h.2) (no-more-acyclic w (record w { nodes = change_in_set h.0 (node_set_config h.1) 0 w.nodes }) (told-no-more h.0 h.1 w) c)
    ] in
    let done : IsAcyclic t.done = no-more-acyclic t.told t.done (happens-no-more t.told t.done t.happens) told in
    subst IsAcyclic (sym t.is) (no-more-acyclic t.done (note_changes w t.done) (noted-no-more w t.done) done)

pub hold-acyclic :
    (end : End) (turns : ℕ) (w : CableWorld) → IsAcyclic w → IsAcyclic (hold end turns w)
hold-acyclic end turns w c =
    no-more-acyclic w (hold end turns w) (λ a b e. record { joined = e.joined; above = e.above; above_at = e.above_at; child = e.child; below = e.below; below_at = e.below_at; parent = e.parent }) c

pub power-on-acyclic : (w : CableWorld) → IsPowerOnWorld w → IsAcyclic w
power-on-acyclic w h = record {
  rank = λ k. 0;
  most = 0;
  bounded = λ k. omega arith;
  falls = λ a b e. absurd (none-some (far w.cabling a) b (power-on-apart w h a) e.joined);
}

-- Pairs of nodes that are each other's candidate parents.
use Rattle.std.proofs.Common.{◌≡◌, inl, inr, true, Some, slice_get, sym, ◌∙◌, ap}
use Rattle.std.proofs.lemmas.Bool.{cases_eq}
use Rattle.cabling.specs.declared.cable.End.{End}
use Rattle.cabling.specs.Wiring.{far}
use Rattle.cabling.proofs.Lemmas.{same_end, one_other}
use Rattle.port_state.specs.Ports.{is_port}
use Rattle.port_state.specs.Machine.{PortNode}
use Rattle.cable_world.specs.World.{CableWorld}
use Rattle.cable_world.specs.Quiet.{quiet_after}
use Rattle.cable_world.specs.Lawful.{IsLawful}
use Rattle.cable_world.proofs.Lemmas.{some-same, quiet-lawful, comes-lawful}
use Rattle.convergence.specs.Milestones.{ResetsAreOver}
use Rattle.convergence.specs.Rivals.{IsContested}
use Rattle.convergence.proofs.Lemmas.{pair-only, pair-no-root, comes-contested, quiet-contested, resets-over, same-port}
use Rattle.world_laws.specs.OnePair.{RivalsAreOne, RivalsAreAlone, RivalsStayAlone, RivalsAreAloneByThen}

-- a node has one parent port
same-up :
    (w : CableWorld) (c a : End) (x y : PortNode) → c.node ≡ a.node →
    slice_get w.nodes c.node ≡ Some x → slice_get w.nodes a.node ≡ Some y →
    is_port x.state.view.parent c.port ≡ true → is_port y.state.view.parent a.port ≡ true → c ≡ a
same-up w c a x y n at_x at_y up_x up_y =
    let same : x ≡ y = some-same x y (sym at_x ∙ ap (slice_get w.nodes) n ∙ at_y) in
    same_end c a n (same-port y.state.view.parent c.port a.port (ap (λ (z : PortNode). is_port z.state.view.parent c.port) (sym same) ∙ up_x) up_y)

other-end :
    (w : CableWorld) (c a d b : End) → c ≡ a → far w.cabling c ≡ Some d → far w.cabling a ≡ Some b → d ≡ b
other-end w c a d b same at_c at_a = one_other (far w.cabling a) d b (ap (far w.cabling) (sym same) ∙ at_c) at_a

one-pair : (w : CableWorld) → IsLawful w → IsContested w → ResetsAreOver w → RivalsAreOne w
one-pair w l c over node set a b e f comp in_a in_e m o = elim (cases_eq e.node a.node) [
  | inl near ↦
      let same : e ≡ a = same-up w e a o.ends.near m.ends.near near o.ends.near_at m.ends.near_at o.here m.here in
      inl (same, other-end w e a f b same o.ends.joined m.ends.joined)
  | inr apart ↦ elim (cases_eq e.node b.node) [
    | inl far-one ↦
        let same : e ≡ b = same-up w e b o.ends.near m.ends.other far-one o.ends.near_at m.ends.other_at o.here m.there in
        inr (same, other-end w e b f a same o.ends.joined (l.well_formed.cabling.both_ways a b m.ends.joined))
    | inr apart_too ↦ absurd (pair-only w l c over a b m node set e f comp in_a in_e o (λ base. elim base [ inl n ↦ apart n | inr n ↦ apart_too n ]))
  ]
]

alone : (w : CableWorld) → IsLawful w → IsContested w → ResetsAreOver w → RivalsAreAlone w
alone w l c over = record {
  one = one-pair w l c over;
  no_root = λ node set a b root comp in_a in_root m is_root. pair-no-root w l c over a b m node set root comp in_a in_root is_root;
}

pub stay-alone : RivalsStayAlone
stay-alone w l c over = alone w l c over

pub alone-by-then : RivalsAreAloneByThen
alone-by-then placed w k r late =
    let l : IsLawful w = comes-lawful w r in
    alone (quiet_after placed k w) (quiet-lawful placed k w l) (quiet-contested placed k w l (comes-contested w r)) (resets-over placed w l k late)

-- In every reached world the lists of a component follow its walk, once all its nodes are in self
-- identify or A0.
use Rattle.std.proofs.Common.{◌≡◌, inl, inr, ℕ, None, Some, length, slice_get, refl, sym, ◌∙◌, ap, subst, arith}
use Rattle.std.proofs.lemmas.Option.{slice_get_cases, slice_get_within}
use Rattle.outcomes.proofs.Common.{contrary, End, Wiring, ports_of, Holds, hears_packets, PortNode, Act, CableWorld, IsPowerOnWorld, turn, Acted, hold, hold_fault, note_changes, ComesOfPowerOn, IsLawful, acting, turn-lawful, cabling-after, some-same, IsAcyclic, AreIdentifying, turn-acyclic, HoldSchedule, quiet_after, NodeState, IsIdentifying, Settles, IsNumbering}
use Rattle.cable_world.proofs.Lemmas.{act-lawful}
use Rattle.convergence.specs.Kept.{IsKept}
use Rattle.convergence.proofs.Lemmas.{power-on-acyclic, hold-acyclic, act-acyclic, kept, kept-quiet}
use Rattle.outcomes.proofs.identify.IdentifyingTurn.{turn-identifying}
use Rattle.outcomes.proofs.identify.IdentifyingActs.{act-identifying, hold-identifying, power-on-identifying}
use Rattle.outcomes.proofs.numbers.HoldRests.{hold-settles}
use Rattle.outcomes.proofs.numbers.Settling.{settles-on}
use Rattle.outcomes.proofs.settled.Beginnings.{all-or-not, nodes-there, begins-to-settle}
use Rattle.outcomes.proofs.settled.Components.{Part, part-in, part-settles, parts-number}
use Rattle.outcomes.proofs.settled.Elsewhere.{LeavesAlone, leaves-alone, same-component, same-core, settles-there}

-- ---- turns

pub turn-numbering : (w : CableWorld) → IsLawful w → IsNumbering w → IsNumbering (turn w)
turn-numbering w l n =
    parts-number (turn w) (turn-acyclic w l n.acyclic) (turn-identifying w l n.identifies)
    (λ p all.
    let same : w.cabling ≡ (turn w).cabling = sym (cabling-after w) in
    let count = l.well_formed.count in
    let count_then = (turn-lawful w l).well_formed.count in
    let long : length w.nodes ≡ length (turn w).nodes =
    omega (arith, count, count_then, ap (λ (c : Wiring). length c) same) in
    let q : Part w = part-in (turn w) w same long p in
    elim (all-or-not w p.set) [
      | inl before ↦
          let s = part-settles w n q before in
          record {
            root = s.root;
            tree = s.tree;
            is = settles-on w l n.acyclic n.identifies p.set p.core s.root s.tree s.is;
          }
      | inr out ↦ begins-to-settle w l n.acyclic n.identifies q out all
    ])

-- ---- holds

pub hold-numbering :
    (end : End) (turns : ℕ) (w : CableWorld) → hold_fault end w ≡ None → IsLawful w →
    IsNumbering w → IsNumbering (hold end turns w)
hold-numbering end turns w none l n =
    parts-number (hold end turns w) (hold-acyclic end turns w n.acyclic)
    (hold-identifying end turns w none l n.identifies)
    (λ p all.
    let q : Part w = part-in (hold end turns w) w refl refl p in
    let s = part-settles w n q all in
    record {
      root = s.root;
      tree = s.tree;
      is = hold-settles end turns w none l p.set p.core s.root s.tree s.is;
    })

-- ---- acts

module _
    (a : Act) (w v : CableWorld) (did : Acted a w v) (l : IsLawful w) (n : IsNumbering w) where
  abbrev after : CableWorld
  after = note_changes w (acting a w v did l.well_formed).done

  m : IsLawful after
  m =
      subst IsLawful (acting a w v did l.well_formed).is
      (act-lawful a w v did l)

  after-acyclic : IsAcyclic after
  after-acyclic =
      subst IsAcyclic (acting a w v did l.well_formed).is
      (act-acyclic a w v did l n.acyclic)

  after-identifying : IsIdentifying after
  after-identifying =
      subst IsIdentifying (acting a w v did l.well_formed).is
      (act-identifying a w v did l n.identifies)

  module _ (p : Part after) (all : AreIdentifying after p.set) where
    node-there : (k : ℕ) → Holds p.set k → (z : PortNode) × (slice_get after.nodes k ≡ Some z)
    node-there = nodes-there after m p.node p.set p.component p.there

    alone : LeavesAlone w after p.set
    alone = leaves-alone w v a did l p.set node-there all

    back : (k : ℕ) → Holds p.set k → ports_of after.cabling k ≡ ports_of w.cabling k
    back k h = sym (alone.ports k h)

    all-before : AreIdentifying w p.set
    all-before k x h at =
        let z = node-there k h in
        let y = alone.nodes k z.0 h z.1 in
        ap (λ (u : PortNode). hears_packets u.state.view.phase) (some-same x y.0 (sym at ∙ y.1))
        ∙ sym (ap hears_packets y.2.phase) ∙ all k z.0 h z.1

    settled : Settles after p.set p.core
    settled =
        let z = node-there p.node p.component.holds in
        let y = alone.nodes p.node z.0 p.component.holds z.1 in
        let q : Part w = record {
          node = p.node;
          set = p.set;
          core = p.core;
          there = slice_get_within w.nodes p.node y.0 y.1;
          component = same-component after.cabling w.cabling p.set back p.node p.component;
          is_core = same-core after.cabling w.cabling p.set back p.core p.is_core;
          small = p.small;
        } in
        let s = part-settles w n q all-before in
        record {
          root = s.root;
          tree = s.tree;
          is =
              settles-there w after l n.acyclic m after-acyclic p.set p.core s.root s.tree alone
              s.is
              node-there all;
        }

  act-numbering-of : IsNumbering v
  act-numbering-of =
      subst IsNumbering (sym (acting a w v did l.well_formed).is)
      (parts-number after after-acyclic after-identifying settled)

pub act-numbering :
    (a : Act) (w v : CableWorld) → Acted a w v → IsLawful w → IsNumbering w → IsNumbering v
act-numbering = act-numbering-of

-- ---- power-on, and runs

pub power-on-numbering : (w : CableWorld) → IsPowerOnWorld w → IsNumbering w
power-on-numbering w h =
    parts-number w (power-on-acyclic w h) (power-on-identifying w h)
    (λ p all. elim (slice_get_cases w.nodes p.node).1 [
      | inl found ↦
          let is = (h.nodes p.node found.0 found.2).is in
          contrary (all p.node found.0 p.component.holds found.2)
          (ap (λ (x : NodeState). hears_packets x.view.phase) is)
      | inr lacks ↦ absurd (omega (arith, lacks.0, p.there))
    ])

pub numbering-kept : IsKept IsNumbering
numbering-kept = kept IsNumbering power-on-numbering turn-numbering hold-numbering act-numbering

pub comes-numbering : (w : CableWorld) → ComesOfPowerOn w → IsNumbering w
comes-numbering = numbering-kept.reached

pub quiet-numbering :
    (hs : HoldSchedule) (k : ℕ) (w : CableWorld) → IsLawful w → IsNumbering w →
    IsNumbering (quiet_after hs k w)
quiet-numbering = kept-quiet IsNumbering numbering-kept

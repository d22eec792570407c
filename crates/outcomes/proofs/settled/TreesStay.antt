-- A component that has come to a tree is at rest, and so it stays in its tree.
use Rattle.std.proofs.Common.{◌≡◌, ℕ, ◌^◌, ◌<◌, true, Some, length, slice_get, sym, ◌∙◌, ap, subst}
use Rattle.outcomes.proofs.Common.{Tree, emits, Wiring, Holds, IsComponent, PortNode, CableWorld, turn, Act, Acted, hold, note_changes, acting, some-of, some-same, comes-lawful, act-comes, cabling-after, ComesOfPowerOn, IsLawful, IsTree, AreIdentifying, is_ready, Settles, IsNumbering, IsSettling, IsAtRest}
use Rattle.cable_world.specs.Run.{Rests, still, hold_first, turn_first}
use Rattle.cable_world.proofs.Lemmas.{turn-comes, hold-comes}
use Rattle.outcomes.proofs.identify.MarksKept.{ready-hears}
use Rattle.outcomes.proofs.numbers.AtRest.{rests-where, rests-on, rest-tree}
use Rattle.outcomes.proofs.numbers.HoldRests.{hold-settles, hold-rests}
use Rattle.outcomes.proofs.numbers.Settling.{settles-on}
use Rattle.outcomes.proofs.settled.Beginnings.{nodes-there}
use Rattle.outcomes.proofs.settled.Components.{in-tree}
use Rattle.outcomes.proofs.settled.Elsewhere.{LeavesAlone, leaves-alone, same-component, settles-there}
use Rattle.outcomes.proofs.settled.Numbering.{comes-numbering}
use Rattle.outcomes.proofs.settled.Outcomes.{tree-ready, same-root, same-tree}

module _
    (w : CableWorld) (r : ComesOfPowerOn w) (node set : ℕ) (comp : IsComponent w.cabling node set)
    (small : set < 2 ^ 63) (root : ℕ) (t : Tree) (h : IsTree w set root t) where
  lawful : IsLawful w
  lawful = comes-lawful w r

  numbering : IsNumbering w
  numbering = comes-numbering w r

  pub ready :
      (k : ℕ) (x : PortNode) → Holds set k → slice_get w.nodes k ≡ Some x →
      is_ready x.state.view.phase ≡ true
  ready = tree-ready w set root t numbering.identifies h

  all : AreIdentifying w set
  all k x inside at = ready-hears x.state.view.phase (ready k x inside at)

  there : node < length w.nodes
  there = in-tree w set root t h node comp.holds

  s : Settles w set h.no_loop.core
  s = numbering.walks node set h.no_loop.core there comp h.no_loop.is_core small all

  pub tree-settles : IsSettling w set h.no_loop.core root t
  tree-settles =
      let at : root ≡ s.root = same-root w lawful numbering.acyclic numbering.identifies set h.no_loop.core s.root s.tree s.is root t h in
      let same : t ≡ s.tree = same-tree w lawful numbering.acyclic numbering.identifies set h.no_loop.core s.root s.tree s.is root t h in
      subst (λ (u : Tree). IsSettling w set h.no_loop.core root u) (sym same) (subst (λ (k : ℕ). IsSettling w set h.no_loop.core k s.tree) (sym at) s.is)

  pub listed :
      (k : ℕ) (x : PortNode) → Holds set k → slice_get w.nodes k ≡ Some x →
      x.state.list.items ≡ emits t
  listed k x inside at =
      let y = some-of (slice_get w.nodes k) _ (h.lists k inside) in
      ap (λ (z : PortNode). z.state.list.items) (some-same x y.0 (sym at ∙ y.1)) ∙ y.2

  pub tree-rests : IsAtRest w set
  tree-rests = rests-where w lawful numbering.identifies set comp.closed all (emits t) ready listed

  pub turn-tree : IsTree (turn w) set root t
  turn-tree =
      let v : ComesOfPowerOn (turn w) = turn-comes w r in
      let n : IsNumbering (turn w) = comes-numbering (turn w) v in
      rest-tree (turn w) (comes-lawful (turn w) v) n.acyclic n.identifies set h.no_loop.core root t
      (settles-on w lawful numbering.acyclic numbering.identifies set h.no_loop.core root t tree-settles) (rests-on w lawful numbering.acyclic numbering.identifies set h.no_loop.core root t tree-settles tree-rests)

pub tree-stays :
    {k : ℕ} {w v : CableWorld} → ComesOfPowerOn w → Rests k w v → (node set : ℕ) →
    IsComponent w.cabling node set → set < 2 ^ 63 → (root : ℕ) (t : Tree) → IsTree w set root t →
    IsTree v set root t
tree-stays r still node set comp small root t h = h
tree-stays {w = w} r (hold_first end k none rests) node set comp small root t h =
    let u : CableWorld = hold end k w in
    let reached : ComesOfPowerOn u = hold-comes end k w none r in
    let n : IsNumbering u = comes-numbering u reached in
    let held : IsTree u set root t =
    rest-tree u (comes-lawful u reached) n.acyclic n.identifies set h.no_loop.core root t
    (hold-settles end k w none (comes-lawful w r) set h.no_loop.core root t (tree-settles w r node set comp small root t h))
    (hold-rests end k w none (comes-lawful w r) set (tree-rests w r node set comp small root t h)) in
    tree-stays reached rests node set comp small root t held
tree-stays {w = w} r (turn_first rests) node set comp small root t h =
    tree-stays (turn-comes w r) rests node set
    (subst (λ (c : Wiring). IsComponent c node set) (sym (cabling-after w)) comp) small root t
    (turn-tree w r node set comp small root t h)

-- ---- acts on other components
-- where the component is left alone, it keeps its tree
alone-tree :
    (w v : CableWorld) (r : ComesOfPowerOn w) → ComesOfPowerOn v → (node set : ℕ) → LeavesAlone w v set →
    IsComponent w.cabling node set → set < 2 ^ 63 →
    ((k : ℕ) → Holds set k → (z : PortNode) × (slice_get v.nodes k ≡ Some z)) →
    AreIdentifying v set →
    (root : ℕ) (t : Tree) → IsTree w set root t → IsTree v set root t
alone-tree w v r reached node set alone comp small there all root t h =
    rest-tree v (comes-lawful v reached) n.acyclic n.identifies set h.no_loop.core root t still
    (rests-where v (comes-lawful v reached) n.identifies set still.component.closed all (emits t)
    (λ k z inside at. let x = alone.nodes k z inside at in ap is_ready x.2.phase ∙ ready w r node set comp small root t h k x.0 inside x.1)
    (λ k z inside at. let x = alone.nodes k z inside at in x.2.list ∙ listed w r node set comp small root t h k x.0 inside x.1))
  where
    n : IsNumbering v
    n = comes-numbering v reached

    still : IsSettling v set h.no_loop.core root t
    still = settles-there w v (comes-lawful w r) (comes-numbering w r).acyclic (comes-lawful v reached) n.acyclic set h.no_loop.core root t alone
        (tree-settles w r node set comp small root t h) there all

pub act-tree :
    (a : Act) (w v : CableWorld) → Acted a w v → ComesOfPowerOn w → (node set : ℕ) →
    IsComponent v.cabling node set → node < length v.nodes → set < 2 ^ 63 →
    AreIdentifying v set → (root : ℕ) (t : Tree) → IsTree w set root t → IsTree v set root t
act-tree a w v did r node set comp here small all root t h =
    alone-tree w v r reached node set alone (same-component v.cabling w.cabling set (λ k inside. sym (alone.ports k inside)) node comp) small there all root t h
  where
    reached : ComesOfPowerOn v
    reached = act-comes a w v did r

    there : (k : ℕ) → Holds set k → (z : PortNode) × (slice_get v.nodes k ≡ Some z)
    there = nodes-there v (comes-lawful v reached) node set comp here

    same : v ≡ note_changes w (acting a w v did (comes-lawful w r).well_formed).done
    same = (acting a w v did (comes-lawful w r).well_formed).is

    alone : LeavesAlone w v set
    alone = subst (λ (u : CableWorld). LeavesAlone w u set) (sym same)
        (leaves-alone w v a did (comes-lawful w r) set
        (subst (λ (u : CableWorld). (k : ℕ) → Holds set k → (z : PortNode) × (slice_get u.nodes k ≡ Some z)) same there) (subst (λ (u : CableWorld). AreIdentifying u set) same all))

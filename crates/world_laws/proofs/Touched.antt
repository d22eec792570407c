-- The nodes that an act resets, and the components that it leaves alone.
use Rattle.std.proofs.Common.{◌≡◌, inl, inr, ℕ, ◌^◌, ◌<◌, Bool, true, false, Some, None, length, nat_lt, slice_get, if◌then◌else◌, refl, sym, ◌∙◌, ap, subst, arith}
use Rattle.std.proofs.lemmas.Option.{slice_get_cases, slice_get_within}
use Rattle.cabling.specs.declared.cable.End.{End}
use Rattle.cabling.specs.declared.cable.CableFault.{CableFault}
use Rattle.cabling.specs.Wiring.{Wiring, far}
use Rattle.cabling.specs.NodeSet.{Holds}
use Rattle.cabling.specs.Component.{IsComponent}
use Rattle.cabling.proofs.Lemmas.{one_other, plugged as has-end, Pluggable, pluggable, other_there, shared, less as less-of}
use Rattle.port_state.specs.declared.signal.Phase.TheVariants.{ResetStart}
use Rattle.port_state.specs.Config.{config_packet}
use Rattle.port_state.specs.Machine.{PortNode, NodeStep, node_disturb, node_plugged, node_pulled, node_set_config}
use Rattle.cable_world.specs.declared.act.Act.{Act}
use Rattle.cable_world.specs.declared.act.Act.TheVariants.{Plug, Pull, Reset, Config}
use Rattle.cable_world.specs.World.{CableWorld}
use Rattle.cable_world.specs.Act.{Acted, act_fault, node_fault}
use Rattle.cable_world.specs.Lawful.{IsLawful, IsWellFormed}
use Rattle.cable_world.proofs.Lemmas.{some-of, some-at, comes-lawful, act-lawful, HasBegun, resets-disturb, resets-plugged, resets-pulled, act-keeps, has-cable}
use Rattle.convergence.specs.Milestones.{AreIdentifying}
use Rattle.outcomes.proofs.Lemmas.{ready-hears, same-component, comes-numbering, tree-ready, act-tree}
use Rattle.world_laws.specs.ByNumber.{BeginsReset, NodeStands, Changes}
use Rattle.world_laws.specs.Touched.{Touches, IsUntouched, TouchedNodesReset, ActsTouchTheirComponent, UntouchedComponentsStay, UntouchedTreesStay}
use Rattle.world_laws.proofs.ActsByNumber.{acts-by-number}
use Rattle.world_laws.proofs.SmallSets.{small-component}

-- ---- the node that an act resets is there

node-there : (w : CableWorld) (k : ℕ) → IsWellFormed w → k < length w.cabling →
    (x : PortNode) × (slice_get w.nodes k ≡ Some x)
node-there w k f less = elim (slice_get_cases w.nodes k).1 [
  | inl found ↦ (found.0, found.2)
  | inr lacks ↦ absurd (omega (arith, lacks.0, less, f.count))
]

no-fault :
    (b : Bool) (f : CableFault) → (if b then None else Some f) ≡ None → b ≡ true
no-fault true f e = refl
no-fault false f e = absurd cc

named-there :
    (node k : ℕ) (w : CableWorld) → node_fault node w ≡ None → IsWellFormed w → k ≡ node → k < length w.cabling
named-there node k w none f e = omega (arith, less-of node (length w.nodes) (no-fault (nat_lt node (length w.nodes)) _ none), f.count, e)

touched-inside :
    (a : Act) (w : CableWorld) → act_fault a w ≡ None → IsWellFormed w → (k : ℕ) → Touches a w k →
    k < length w.cabling
touched-inside (Plug a b) w none f k (inl e) = let may : Pluggable w.cabling a b = pluggable w.cabling a b none in omega (arith, e, may.has_a.node)
touched-inside (Plug a b) w none f k (inr e) = let may : Pluggable w.cabling a b = pluggable w.cabling a b none in omega (arith, e, may.has_b.node)
touched-inside (Pull a) w none f k (inl e) = let cable = has-cable w.cabling a none in omega (arith, e, (has-end w.cabling a cable.0 cable.1).node)
touched-inside (Pull a) w none f k (inr s) = let b = some-of (far w.cabling a) _ s in omega (arith, b.2, (other_there w.cabling a b.0 f.cabling b.1).node)
touched-inside (Reset node) w none f k e = named-there node k w none f e
touched-inside (Config from root_id force gap) w none f k e = named-there from k w none f e

-- ---- and it begins a reset

abbrev pub Begun : CableWorld → ℕ → Type 0
Begun v k = (z : PortNode) × (slice_get v.nodes k ≡ Some z) × HasBegun z.state

begun-at :
    (w v : CableWorld) (m k : ℕ) (step : PortNode → NodeStep) →
    ((x : PortNode) → HasBegun (step x).node.state) → BeginsReset w v m step → k ≡ m →
    (x : PortNode) → slice_get w.nodes k ≡ Some x → Begun v k
begun-at w v m k step begins h e x at =
    ((step x).node, ap (slice_get v.nodes) e ∙ h.node x (sym (ap (slice_get w.nodes) e) ∙ at), begins x)

begun-by :
    (a : Act) (w v : CableWorld) → Changes a w v → (k : ℕ) → Touches a w k → (x : PortNode) →
    slice_get w.nodes k ≡ Some x → Begun v k
begun-by (Plug a b) w v n k (inl e) x at = begun-at w v a.node k (node_plugged a.port) (resets-plugged a.port).begins n.node_a e x at
begun-by (Plug a b) w v n k (inr e) x at = begun-at w v b.node k (node_plugged b.port) (resets-plugged b.port).begins n.node_b e x at
begun-by (Pull a) w v n k (inl e) x at = begun-at w v a.node k (node_pulled a.port) (resets-pulled a.port).begins n.1.node_a e x at
begun-by (Pull a) w v n k (inr s) x at =
    let b = some-of (far w.cabling a) _ s in
    let same : b.0 ≡ n.0 = one_other (far w.cabling a) b.0 n.0 b.1 n.1.cables.joined in
    begun-at w v n.0.node k (node_pulled n.0.port) (resets-pulled n.0.port).begins n.1.node_b (b.2 ∙ ap (λ (z : End). z.node) same) x at
begun-by (Reset node) w v n k e x at = begun-at w v node k node_disturb resets-disturb.begins n.resets e x at
begun-by (Config from root_id force gap) w v n k e x at =
    let heard : PortNode → PortNode = node_set_config (config_packet root_id force gap) in
    begun-at w v from k (λ y. node_disturb (heard y)) (λ y. resets-disturb.begins (heard y)) n.1.resets e x at

pub touched-begun :
    (a : Act) (w v : CableWorld) → Acted a w v → IsLawful w → (k : ℕ) → Touches a w k → Begun v k
touched-begun a w v did l k touched =
    let x = node-there w k l.well_formed (touched-inside a w did.1 l.well_formed k touched) in
    begun-by a w v (acts-by-number a w v did l) k touched x.0 x.1

pub touched-reset : TouchedNodesReset
touched-reset a w v did l k touched =
    let z = touched-begun a w v did l k touched in
    some-at (slice_get v.nodes k) z.0 (λ (x : PortNode). (x.state.view.phase ≡ ResetStart) × (x.state.view.timer ≡ 0)) z.1 (z.2.phase, z.2.timer)

-- ---- untouched components

stands-by :
    (a : Act) (w v : CableWorld) → IsLawful w → Changes a w v → (node set : ℕ) →
    IsUntouched a w v node set → (k : ℕ) → Holds set k → NodeStands w v k
stands-by (Plug a b) w v l n node set u k h = n.others k (λ e. u.none k h (inl e)) (λ e. u.none k h (inr e))
stands-by (Pull a) w v l n node set u k h =
    n.1.others k (λ e. u.none k h (inl e)) (λ e. u.none k h (inr (some-at (far w.cabling a) n.0 (λ (b : End). k ≡ b.node) n.1.cables.joined e)))
stands-by (Reset node) w v l n from set u k h = n.others k (λ e. u.none k h e)
stands-by (Config from root_id force gap) w v l n node set u k h = n.1.others k (λ inside.
    let comp : IsComponent w.cabling node set = subst (λ (c : Wiring). IsComponent c node set) n.1.cables u.component in
    let own : IsComponent w.cabling k n.0 = shared w.cabling from k n.0 l.well_formed.cabling n.1.component inside in
    u.none from (own.least set h comp.closed from n.1.component.holds) refl)

pub stands : ActsTouchTheirComponent
stands a w v did l node set u = stands-by a w v l (acts-by-number a w v did l) node set u

pub component-stays : UntouchedComponentsStay
component-stays a w v did l node set u =
    same-component v.cabling w.cabling set (λ k h. (stands a w v did l node set u k h).ports) node u.component

pub tree-stays : UntouchedTreesStay
tree-stays a w v node set root t did r u h =
    let l : IsLawful w = comes-lawful w r in
    let m : IsLawful v = act-lawful a w v did l in
    let x = some-of (slice_get w.nodes node) _ (h.ids node u.component.holds) in
    let here : node < length v.nodes = omega (arith, slice_get_within w.nodes node x.0 x.1, (act-keeps a w v did.2).nodes) in
    let small : set < 2 ^ 63 = small-component v.cabling node set m.well_formed.cabling (omega (arith, here, m.well_formed.count)) u.component in
    let all : AreIdentifying v set = λ k z inside at.
    let still : slice_get v.nodes k ≡ slice_get w.nodes k = (stands a w v did l node set u k inside).node in
    ready-hears z.state.view.phase (tree-ready w set root t (comes-numbering w r).identifies h k z inside (sym still ∙ at)) in
    act-tree a w v did r node set u.component here small all root t h

-- The nodes at which an act isn't done show nothing new after it.
use Rattle.std.proofs.Common.{◌≡◌, inl, inr, ℕ, zero, suc, ◌+◌, ◌<◌, List, [], ◌∷◌, All, Option, Some, length, drop, slice_get, slice_index_or, refl, sym, ◌∙◌, ap, subst, arith}
use Rattle.std.specs.Prelude.{IsSomeAnd}
use Rattle.std.proofs.Math.Seq.{drop-length}
use Rattle.std.proofs.Math.ListN.{drop_of_length-le}
use Rattle.std.proofs.lemmas.Bool.{cases_lt}
use Rattle.std.proofs.lemmas.List.{get_or_past}
use Rattle.std.proofs.lemmas.Option.{slice_get_within}
use Rattle.cabling.specs.NodeSet.{Nodes}
use Rattle.cabling.specs.declared.cable.End.{End}
use Rattle.cabling.specs.Wiring.{Wiring}
use Rattle.port_state.specs.declared.ports.PortView.{PortView}
use Rattle.port_state.specs.Machine.{PortNode}
use Rattle.cable_world.specs.declared.act.Act.{Act}
use Rattle.cable_world.specs.declared.act.Act.TheVariants.{Plug, Pull, Reset, Config}
use Rattle.cable_world.specs.declared.wire.Travelling.{Travelling}
use Rattle.cable_world.specs.Wire.{Wire, empty_wire}
use Rattle.cable_world.specs.World.{CableWorld, NodeNumber, wire_of}
use Rattle.cable_world.specs.Lawful.{IsLawful}
use Rattle.cable_world.proofs.Lemmas.{some-same}
use Rattle.world_laws.specs.ByNumber.{NodeStands, Changes, ActsByNumber}
use Rattle.script_trace.specs.Event.{Seen}
use Rattle.script_trace.specs.Step.{seen_before_act, node_before_act, counts_from}
use Rattle.script_trace.specs.News.{ShowsNothingNew}
use Rattle.script_trace.specs.ActTouches.{MayTouch, TakesTouched, TouchesAtMost}
use Rattle.script_trace.proofs.News.{IsOld}

-- what stands among what the nodes showed before an act
act-at :
    (w : CableWorld) (first i k : ℕ) (nodes : List PortNode) (s : Seen) → k ≡ first + i → slice_get (seen_before_act w first nodes) i ≡ Some s →
    (x : PortNode) × (slice_get nodes i ≡ Some x) × (s ≡ node_before_act w k x)
act-at w first i k [] s at is = absurd cc
act-at w first zero k (y ∷ nodes) s at is =
    let here : first ≡ k = omega (arith, at) in (
      y,
      refl,
      some-same s (node_before_act w k y) (sym is ∙ ap (λ (j : ℕ). Some (node_before_act w j y)) here),
    )
act-at w first (suc i) k (y ∷ nodes) s at is = act-at w (first + 1) i k nodes s (omega (arith, at)) is

-- as many as there are nodes
pub seen-length : (w : CableWorld) (first : ℕ) (nodes : List PortNode) → length (seen_before_act w first nodes) ≡ length nodes
seen-length w first [] = refl
seen-length w first (x ∷ nodes) = ap suc (seen-length w (first + 1) nodes)

counts-at :
    (w : CableWorld) (k first i : ℕ) (ports : List PortView) → i < length ports →
    slice_index_or (counts_from w k first ports) i 0 ≡ length (wire_of w (record { node = k; port = first + i })).signals
counts-at w k first i [] h = absurd (omega (arith, h))
counts-at w k first zero (p ∷ ports) h =
    let here : first ≡ first + 0 = omega arith in
    ap (λ (j : ℕ). length (wire_of w (record { node = k; port = j })).signals) here
counts-at w k first (suc i) (p ∷ ports) h =
    let next : first + 1 + i ≡ first + suc i = omega arith in
    counts-at w k (first + 1) i ports (omega (arith, h))
    ∙ ap (λ (j : ℕ). length (wire_of w (record { node = k; port = j })).signals) next

none-old : (ts : List Travelling) → ts ≡ [] → All IsOld ts
none-old ts e = subst (All IsOld) (sym e) (λ i d h. absurd (omega (arith, h)))

-- a node that stands
module _ (w v : CableWorld) (l : IsLawful w) (k : NodeNumber) (x : PortNode) (at : slice_get w.nodes k ≡ Some x) (stands : NodeStands w v k) where
  sent-old : (port : ℕ) →
      All IsOld (drop (slice_index_or (counts_from w k 0 x.state.view.ports) port 0) (wire_of v (record { node = k; port = port })).signals)
  sent-old port =
      let end : End = record { node = k; port = port } in
      let n = slice_index_or (counts_from w k 0 x.state.view.ports) port 0 in
      let fits = l.well_formed.nodes k x at in
      let same : wire_of v end ≡ wire_of w end = stands.wires end refl in
      let none : drop n (wire_of w end).signals ≡ [] = elim (cases_lt port (length x.state.view.ports)) [
        | inl there ↦
            let here : 0 + port ≡ port = omega arith in
            ap (λ (m : ℕ). drop m (wire_of w end).signals)
            (counts-at w k 0 port x.state.view.ports there ∙ ap (λ (j : ℕ). length (wire_of w (record { node = k; port = j })).signals) here)
            ∙ drop-length (wire_of w end).signals
        | inr past ↦
            ap (λ (u : Wire). drop n u.signals)
            (get_or_past (slice_index_or w.wires k []) port empty_wire (omega (arith, past, fits.wires, fits.valid.bounded.views)))
            ∙ drop_of_length-le {A = Travelling} [] {i = n} (omega arith)
      ] in
      none-old (drop n (wire_of v end).signals) (ap (λ (u : Wire). drop n u.signals) same ∙ none)

  stands-old : (y : PortNode) → slice_get v.nodes k ≡ Some y →
      ShowsNothingNew v k (node_before_act w k x) y.state.view
  stands-old y now = record {
    ticked = refl;
    view = ap (λ (z : PortNode). z.state.view) same ∙ ap (λ (z : PortNode). record x.state.view { timer = z.state.view.timer }) (sym same);
    sent = sent-old;
  }
    where
      same : y ≡ x
      same = some-same y x (sym now ∙ stands.node ∙ at)

-- ---- each act

-- a node at which nothing may be done stands
stands-at :
    (a : Act) (w v : CableWorld) (k : NodeNumber) → Changes a w v → (MayTouch a w.cabling k → ⊥) → NodeStands w v k
stands-at (Plug a b) w v k c none = c.others k (λ e. none (inl e)) (λ e. none (inr e))
stands-at (Pull a) w v k (b, c) none =
    c.others k (λ e. none (inl e))
    (λ e. none (inr (subst (λ (o : Option End). IsSomeAnd o (λ z. k ≡ z.node)) (sym c.cables.joined) e)))
stands-at (Reset node) w v k c none = c.others k none
stands-at (Config from root_id force gap) w v k c none = absurd (none tt)

pub touches : ActsByNumber → (a : Act) (c : Wiring) (set : Nodes) → TakesTouched a c set → TouchesAtMost a c set
touches numbers a c set takes w v same did lawful k s y here now out =
    let found = act-at w 0 k k w.nodes s (omega arith) here in
    let x = found.0 in
    let inside : k < length c =
    omega (arith, slice_get_within w.nodes k x found.1, lawful.well_formed.count, ap length same) in
    let stands = stands-at a w v k (numbers a w v did lawful)
    (λ may. out (takes k inside (subst (λ (d : Wiring). MayTouch a d k) same may))) in
    subst (λ (u : Seen). ShowsNothingNew v k u y.state.view) (sym found.2) (stands-old w v lawful k x found.1 stands y now)

-- Where a node draws a coin, its wait is one of its two, and is short.
use Rattle.std.proofs.Common.{◌≡◌, ◌⊎◌, inl, inr, ℕ, ◌<◌, ◌≤◌, Bool, true, false, Option, Some, None, slice_get, if◌then◌else◌, refl, sym, subst, ◌∙◌, ap, arith}
use Rattle.port_state.specs.Tick.{raise_timer, tick, next_row, does}
use Rattle.port_state.specs.Row as row
use Rattle.port_state.specs.Row.{Row}
use Rattle.port_state.specs.Config.{ConfigPacket}
use Rattle.port_state.specs.declared.states.NodeState.{NodeState}
use Rattle.port_state.specs.declared.timing.Timing.{Timing}
use Rattle.port_state.specs.Machine.{PortNode, beat, on_beat, node_set_config}
use Rattle.cabling.specs.Wiring.{ports_of}
use Rattle.cable_world.specs.declared.act.Act.{Act}
use Rattle.cable_world.specs.World.{CableWorld}
use Rattle.cable_world.specs.Turn.{turn, turn_at, inbox, hear_all}
use Rattle.cable_world.specs.Act.{Acted, change_in_set}
use Rattle.cable_world.specs.Lawful.{IsLawful, IsWellFormed}
use Rattle.cable_world.proofs.Lemmas.{Acting, acting, each-kept, before, hears, turn-state, some-same}

-- ---- a tick

-- it draws no coin, or the wait then is one of the two
abbrev Draws : NodeState → NodeState → Type 0
Draws x y = (y.view.draws ≡ x.view.draws) ⊎ ((y.view.wait ≡ x.timing.short) ⊎ (y.view.wait ≡ x.timing.long))

one-of : (coin : Bool) (t : Timing) →
    ((if coin then t.long else t.short) ≡ t.short) ⊎ ((if coin then t.long else t.short) ≡ t.long)
one-of true t = inr refl
one-of false t = inl refl

row-draws : (coin : Bool) (r : Row) (x : NodeState) → Draws x (does coin r x).state
row-draws coin (row.begins_contention p) x = inr (one-of coin x.timing)
row-draws coin r x = inl refl

beat-draws : (b : Option Bool) (x : NodeState) → Draws x (on_beat b x).state
unfolding tick
beat-draws None x = inl refl
beat-draws (Some coin) x = row-draws coin (next_row x) (raise_timer x)

-- ---- a turn

pub turn-waits :
    (w : CableWorld) (k : ℕ) (x y : PortNode) → IsLawful w → slice_get w.nodes k ≡ Some x →
    slice_get (turn w).nodes k ≡ Some y → x.state.view.draws < y.state.view.draws →
    y.state.view.wait < 4294967296
turn-waits w k x y l at now more =
    let found = before w k y l.well_formed now in
    let same : found.0 ≡ x = some-same found.0 x (sym found.1 ∙ at) in
    let is : y ≡ (turn_at w k x).node = found.2 ∙ ap (λ (z : PortNode). (turn_at w k z).node) same in
    let heard : NodeState = (hear_all (inbox w 0 (ports_of w.cabling k)) x.state).state in
    let state : y.state ≡ (on_beat (beat x) heard).state =
    ap (λ (z : PortNode). z.state) is ∙ turn-state (inbox w 0 (ports_of w.cabling k)) x in
    let h = hears w k x l.well_formed at in
    let fewer : heard.view.draws ≤ x.state.view.draws = elim h.cases [
      | inl s ↦ omega (arith, s.draws)
      | inr e ↦ omega (arith, e.draws)
    ] in
    let times = (l.well_formed.nodes k x at).timing in
    let counted = times.counted in
    let short : heard.timing.short < 4294967296 =
    subst (λ (t : Timing). t.short < 4294967296) (sym h.timing) (omega (arith, times.short_most, counted.short)) in
    let long : heard.timing.long < 4294967296 =
    subst (λ (t : Timing). t.long < 4294967296) (sym h.timing) (omega (arith, times.long_most, counted.long)) in
    let so : (on_beat (beat x) heard).state.view.wait < 4294967296 = elim (beat-draws (beat x) heard) [
      | inl none ↦ absurd (let draws : y.state.view.draws ≡ heard.view.draws = ap (λ (s : NodeState). s.view.draws) state ∙ none in omega (arith, draws, fewer, more))
      | inr drew ↦ elim drew [
        | inl s ↦ omega (arith, s, short)
        | inr s ↦ omega (arith, s, long)
      ]
    ] in
    subst (λ (s : NodeState). s.view.wait < 4294967296) (sym state) so

-- ---- an act

-- draws nothing
pub act-draws :
    (a : Act) (w v : CableWorld) (k : ℕ) (x y : PortNode) → Acted a w v → IsWellFormed w →
    slice_get w.nodes k ≡ Some x → slice_get v.nodes k ≡ Some y → y.state.view.draws ≤ x.state.view.draws
act-draws a w v k x y did f at now =
    let t : Acting w v = acting a w v did f in
    let done : slice_get t.done.nodes k ≡ Some y =
    sym (ap (λ (u : CableWorld). slice_get u.nodes k) t.is) ∙ now in
    elim (t.happens.nodes k y done) [
      | inl begun ↦ omega (arith, begun.draws)
      | inr stood ↦ told t.told t.hears stood
    ]
  where
    here : (z : PortNode) → slice_get w.nodes k ≡ Some z → z.state.view.draws ≤ x.state.view.draws
    here z is = let same : z ≡ x = some-same z x (sym is ∙ at) in omega (arith, ap (λ (n : PortNode). n.state.view.draws) same)

    told :
        (u : CableWorld) →
        ((u ≡ w)
        ⊎ ((set : ℕ) × (packet : ConfigPacket) × (u ≡ record w { nodes = change_in_set set (node_set_config packet) 0 w.nodes }))) →
        slice_get u.nodes k ≡ Some y → y.state.view.draws ≤ x.state.view.draws
    told u (inl same) stood = here y (sym (ap (λ (c : CableWorld). slice_get c.nodes k) same) ∙ stood)
    told u (inr (set, packet, same)) stood =
        each-kept set (node_set_config packet) w.nodes k (λ (z : PortNode). z.state.view.draws ≤ x.state.view.draws)
        (λ z less. less) here y (sym (ap (λ (c : CableWorld). slice_get c.nodes k) same) ∙ stood)

-- In quiet turns resets end, and no more are counted.
use Rattle.std.proofs.Common.{◌≡◌, ℕ, ◌+◌, ◌*◌, ◌≤◌, false, Some, length, slice_get, sym, ◌∙◌, ap, arith}
use Rattle.port_state.specs.Heard.{is_resetting}
use Rattle.port_state.specs.Machine.{PortNode, beat}
use Rattle.cabling.specs.Wiring.{ports_of}
use Rattle.cable_world.specs.Times.{Suits}
use Rattle.cable_world.specs.World.{CableWorld}
use Rattle.cable_world.specs.Turn.{inbox, turn}
use Rattle.cable_world.specs.Quiet.{HoldSchedule, quiet_after}
use Rattle.cable_world.specs.Lawful.{IsLawful}
use Rattle.cable_world.proofs.Options.{some-same}
use Rattle.cable_world.proofs.turns.ByNumber.{node-after}
use Rattle.cable_world.proofs.QuietTurns.{one-quiet, quiet-lawful}
use Rattle.cable_world.proofs.coupling.CouplingInTurns.{hears, ticks}
use Rattle.cable_world.proofs.resets.Entries.{steady}
use Rattle.cable_world.proofs.resets.ResetCounts.{turn-counts}

pub counts-stand :
    (hs : HoldSchedule) (w : CableWorld) → IsLawful w → (k : ℕ) → length w.nodes * w.delay ≤ k →
    (j : ℕ) (x y : PortNode) → slice_get (quiet_after hs k w).nodes j ≡ Some x →
    slice_get (quiet_after hs (k + 1) w).nodes j ≡ Some y → y.state.view.resets ≡ x.state.view.resets
counts-stand hs w l k long j x y at_x at_y =
    let v : CableWorld = quiet_after hs k w in
    let lv : IsLawful v = quiet-lawful hs k w l in
    let now : slice_get (turn v).nodes j ≡ Some y = ap (λ (u : CableWorld). slice_get u.nodes j) (sym (one-quiet hs k w)) ∙ at_y in
    let range : Suits v.delay v.longest x.state.timing = (lv.well_formed.nodes j x at_x).timing in
    let is = some-same _ y (sym (node-after v j x lv.well_formed.count at_x) ∙ now) in
    let stays : is_resetting x.state.view.phase ≡ false → is_resetting y.state.view.phase ≡ false = steady hs w l k long j x y at_x at_y in
    sym (ap (λ (z : PortNode). z.state.view.resets) is)
    ∙ turn-counts (inbox v 0 (ports_of v.cabling j)) (beat x) x.state
    (omega (arith, range.hold_least, lv.well_formed.some_delay)) (omega (arith, range.hold_most, range.counted.hold))
    (hears v j x lv.well_formed at_x) (ticks v j x lv.well_formed at_x)
    (λ e. ap (λ (z : PortNode). is_resetting z.state.view.phase) is ∙ stays e)

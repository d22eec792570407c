-- Turns, holds and acts keep a world lawful, and so every world that comes of a power-on world is
-- lawful.
use Rattle.std.proofs.Common.{◌≡◌, ◌≤◌, ℕ, zero, suc, List, [], ◌∷◌, slice_get, refl, ◌∙◌, ap, subst, sym}
use Rattle.port_state.specs.declared.timing.Timing.{Timing}
use Rattle.port_state.specs.Clock.{Clock}
use Rattle.port_state.specs.Machine.{PortNode}
use Rattle.cabling.specs.declared.cable.End.{End}
use Rattle.cable_world.specs.declared.act.Act.{Act}
use Rattle.cable_world.specs.World.{CableWorld, CanRun}
use Rattle.cable_world.specs.Turn.{turn, turns_after}
use Rattle.cable_world.specs.Act.{hold, ActLeads}
use Rattle.cable_world.specs.Run.{starts, acted, held, turned}
use Rattle.cable_world.specs.Events.{Event, acts, holds, turns, Happens, Runs}
use Rattle.cable_world.specs.Agreement.{LevelsAgree}
use Rattle.cable_world.specs.Coupling.{IsCoupled}
use Rattle.cable_world.specs.StaysLawful.{HoldsAtPowerOn, KeptByTurns, KeptByHolds, KeptByActs, ComesIsLawful, ReachedIsLawful, ReachedCanRun, TimesStay}
use Rattle.cable_world.specs.Lawful.{IsPaced, IsWellFormed, IsLawful}
use Rattle.cable_world.proofs.tables.AtPowerOn.{power-on-formed, power-on-agrees}
use Rattle.cable_world.proofs.Options.{some-same}
use Rattle.cable_world.proofs.StaysReached.{reached-comes}
use Rattle.cable_world.proofs.tables.CountsInActs.{act-keeps}
use Rattle.cable_world.proofs.turns.ByNumber.{delay-after}
use Rattle.cable_world.proofs.tables.TimesKept.{Timed, GoesOn, turn-timed, act-timed, turn-paced, act-paced}
use Rattle.cable_world.proofs.tables.Slack.{turn-forced, act-forced, turn-regular, act-regular}
use Rattle.cable_world.proofs.tables.TablesInTurns.{turn-formed}
use Rattle.cable_world.proofs.tables.TablesInActs.{act-formed, hold-formed}
use Rattle.cable_world.proofs.levels.LevelsInActs.{act-levels, hold-levels}
use Rattle.cable_world.proofs.coupling.CouplingInTurns.{turn-levels, turn-coupled}
use Rattle.cable_world.proofs.coupling.CouplingInActs.{act-coupled, hold-coupled, power-on-coupled}
use Rattle.cable_world.proofs.coupling.RolesFollow.{coupled-roles}

-- that child ports lead to parent ports follows from the rest
lawful-of : (w : CableWorld) → IsWellFormed w → IsPaced w → LevelsAgree w → IsCoupled w → IsLawful w
lawful-of w f p l c = record { well_formed = f; paced = p; agrees = record { levels = l; roles = coupled-roles w c }; coupled = c }

pub power-on-lawful : HoldsAtPowerOn IsLawful
power-on-lawful w h = record { well_formed = power-on-formed w h; paced = h.clocks; agrees = power-on-agrees w h; coupled = power-on-coupled w h }

pub turn-lawful : (w : CableWorld) → IsLawful w → IsLawful (turn w)
turn-lawful w h = lawful-of (turn w) (turn-formed w h.well_formed) (turn-paced w h.well_formed h.paced) (turn-levels w h.well_formed h.agrees.levels h.coupled) (turn-coupled w h.well_formed h.agrees.levels h.coupled)

pub hold-lawful : KeptByHolds IsLawful
hold-lawful end n w none h =
    lawful-of (hold end n w) (hold-formed end n w none h.well_formed) h.paced (hold-levels end n w none h.well_formed h.agrees.levels) (hold-coupled end n w none h.well_formed h.coupled)

pub act-lawful : KeptByActs IsLawful
act-lawful a w v did h =
    lawful-of v (act-formed a w v did h.well_formed) (act-paced a w v did.2 h.paced) (act-levels a w v did h.well_formed h.agrees.levels) (act-coupled a w v did h.well_formed h.coupled)

pub turns-lawful : KeptByTurns IsLawful
unfolding turns_after
turns-lawful zero w h = h
turns-lawful (suc k) w h = turns-lawful k (turn w) (turn-lawful w h)

pub comes-lawful : ComesIsLawful
comes-lawful _ (starts w p) = power-on-lawful w p
comes-lawful _ (acted a w v did r) = act-lawful a w v did (comes-lawful w r)
comes-lawful _ (held end n w none r) = hold-lawful end n w none (comes-lawful w r)
comes-lawful _ (turned w r) = turn-lawful w (comes-lawful w r)

pub reached-lawful : ReachedIsLawful
reached-lawful w r = comes-lawful w (reached-comes w r)

-- ---- a node's times never change

event-lawful : (e : Event) (w v : CableWorld) → Happens e w v → IsLawful w → IsLawful v
event-lawful (acts a) w v h l = act-lawful a w v h l
event-lawful (holds end n) w v h l = subst IsLawful (sym h.1) (hold-lawful end n w h.0 l)
event-lawful turns w v h l = subst IsLawful (sym h) (turn-lawful w l)

event-timed :
    (P : ℕ → Timing → Clock → Type 0) (e : Event) (w v : CableWorld) → GoesOn P → Happens e w v → IsLawful w →
    Timed P w.nodes → Timed P v.nodes
event-timed P (acts a) w v on h l t = act-timed P a w v h.2 t
event-timed P (holds end n) w v on h l t = subst (λ (u : CableWorld). Timed P u.nodes) (sym h.1) t
event-timed P turns w v on h l t = subst (λ (u : CableWorld). Timed P u.nodes) (sym h) (turn-timed P w on l.well_formed t)

runs-timed :
    (P : ℕ → Timing → Clock → Type 0) (events : List Event) (w v : CableWorld) → GoesOn P → Runs events w v →
    IsLawful w → Timed P w.nodes → Timed P v.nodes
runs-timed P [] w v on r l t = subst (λ (u : CableWorld). Timed P u.nodes) (sym r) t
runs-timed P (e ∷ events) w v on r l t = runs-timed P events r.0 v on r.2 (event-lawful e w r.0 r.1 l) (event-timed P e w r.0 on r.1 l t)

pub times-stay : TimesStay
times-stay events w v k x y l r at_x at_y =
    runs-timed (λ j t c. j ≡ k → t ≡ x.state.timing) events w v (λ j t c p. p) r l
    (λ j z at same. ap (λ (u : PortNode). u.state.timing) (some-same z x (sym at ∙ ap (slice_get w.nodes) same ∙ at_x))) k y at_y refl

turn-runs : (w : CableWorld) → IsLawful w → CanRun w → CanRun (turn w)
turn-runs w l h = record {
  short_delay = rw (delay-after w) h.short_delay;
  forced = turn-forced w l.well_formed h.regular h.forced;
  regular = turn-regular w l.well_formed h.regular;
}

act-runs : (a : Act) (w v : CableWorld) → ActLeads a w v → CanRun w → CanRun v
act-runs a w v led h = record {
  short_delay = rw (act-keeps a w v led).delay h.short_delay;
  forced = act-forced a w v led h.forced;
  regular = act-regular a w v led h.regular;
}

hold-runs : (end : End) (n : ℕ) (w : CableWorld) → CanRun w → CanRun (hold end n w)
hold-runs end n w h = record { short_delay = h.short_delay; forced = h.forced; regular = h.regular }

pub reached-runs : ReachedCanRun
reached-runs _ (starts w p) = p.1
reached-runs _ (acted a w v did r) = act-runs a w v did.2 (reached-runs w r)
reached-runs _ (held end n w none r) = hold-runs end n w (reached-runs w r)
reached-runs _ (turned w r) = turn-runs w (reached-lawful w r) (reached-runs w r)

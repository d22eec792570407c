-- What comes of a world: what is kept by acts, holds and turns holds of it, and what comes of it
-- comes of that world too.
use Rattle.std.proofs.Common.{zero, suc, List, [], ◌∷◌, sym, subst}
use Rattle.cable_world.specs.World.{CableWorld}
use Rattle.cable_world.specs.Turn.{turn, turns_after}
use Rattle.cable_world.specs.Run.{ComesOf, starts, acted, held, turned, ComesOfPowerOn, IsReached}
use Rattle.cable_world.specs.Events.{Event, acts, holds, turns, Happens, Runs}
use Rattle.cable_world.specs.StaysLawful.{HoldsAtPowerOn, KeptByTurns, KeptByHolds, KeptByActs, ReachedAtPowerOn, ReachedComesOfPowerOn}

-- ---- from any worlds

pub event-comes :
    {S : CableWorld → Type 0} → (e : Event) (w v : CableWorld) → Happens e w v → ComesOf S w →
    ComesOf S v
event-comes (acts a) w v h r = acted a w v h r
event-comes {S = S} (holds end n) w v h r = subst (ComesOf S) (sym h.1) (held end n w h.0 r)
event-comes {S = S} turns w v h r = subst (ComesOf S) (sym h) (turned w r)

pub run-comes :
    {S : CableWorld → Type 0} → (events : List Event) (w v : CableWorld) → Runs events w v →
    ComesOf S w → ComesOf S v
run-comes {S = S} [] w v run r = subst (ComesOf S) (sym run) r
run-comes (e ∷ events) w v run r = run-comes events run.0 v run.2 (event-comes e w run.0 run.1 r)

pub all-turned : {S : CableWorld → Type 0} → KeptByTurns (ComesOf S)
unfolding turns_after
all-turned zero w r = r
all-turned (suc k) w r = all-turned k (turn w) (turned w r)

-- ---- from a power-on world

pub power-on-comes : HoldsAtPowerOn ComesOfPowerOn
power-on-comes = starts

pub turn-comes : (w : CableWorld) → ComesOfPowerOn w → ComesOfPowerOn (turn w)
turn-comes = turned

pub turns-come : KeptByTurns ComesOfPowerOn
turns-come = all-turned

pub hold-comes : KeptByHolds ComesOfPowerOn
hold-comes = held

pub act-comes : KeptByActs ComesOfPowerOn
act-comes = acted

-- ---- the same where the world can run

pub reached-comes : ReachedComesOfPowerOn
reached-comes _ (starts w p) = starts w p.0
reached-comes _ (acted a w v did r) = acted a w v did (reached-comes w r)
reached-comes _ (held end n w none r) = held end n w none (reached-comes w r)
reached-comes _ (turned w r) = turned w (reached-comes w r)

pub power-on-reached : ReachedAtPowerOn
power-on-reached w h runs = starts w (h, runs)

pub turn-reached : (w : CableWorld) → IsReached w → IsReached (turn w)
turn-reached = turned

pub turns-reached : KeptByTurns IsReached
turns-reached = all-turned

pub hold-reached : KeptByHolds IsReached
hold-reached = held

pub act-reached : KeptByActs IsReached
act-reached = acted

use Rattle.std.proofs.Common.{ap, arith}
use Rattle.cable_world.specs.World.{CableWorld}
use Rattle.cable_world.proofs.Lemmas.{lawful-now, short-now}
use Rattle.script_bus.proofs.bus.Bus.delay.Goals as goal

pub returns-clause-some : goal.returns-clause-some
returns-clause-some c =
    let lawful = lawful-now _ c.buses_are_sound.ensures.reached in
    omega (arith, c.delay.ensures, ap (λ (w : CableWorld). w.delay) c.world.ensures.is, lawful.well_formed.some_delay)

pub returns-clause-few : goal.returns-clause-few
returns-clause-few c =
    omega (arith, c.delay.ensures, ap (λ (w : CableWorld). w.delay) c.world.ensures.is, short-now _ c.buses_are_sound.ensures.reached)

use Rattle.std.proofs.Common.{◌+◌, All, map, sym, ap, subst}
use Rattle.port_state.specs.declared.ranges.TimeRanges.{TimeRanges}
use Rattle.port_state.specs.declared.timing.Timing.{Timing}
use Rattle.cable_world.specs.Times.{CanBeForced}
use Rattle.cable_world.specs.World.{slack_of}
use Rattle.cable_world.proofs.Lemmas.{forced-in-range}
use Rattle.world_agenda.proofs.agenda.AgendaWorld.new.Goals as goal

pub with_times-requires-clause-forced : goal.with_times-requires-clause-forced
with_times-requires-clause-forced g c =
    let f = g.M.PortMachine.record_of in
    let d = c.args.delay in
    let machines = c.args.machines.items in
    subst (λ (longest : Timing). All (λ m. CanBeForced (d + slack_of (map f machines)) longest (f m).state.timing) machines)
    (sym (ap (λ (r : TimeRanges). r.most) c.profile.ensures))
    (forced-in-range f d machines c.requires.some_delay c.requires.power_on c.requires.clocks)

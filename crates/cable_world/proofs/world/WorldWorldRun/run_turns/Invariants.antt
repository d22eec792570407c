use Rattle.std.proofs.Common.{◌≡◌, false, map}
use Rattle.cable_world.specs.Turn.{turns_after}
use Rattle.cable_world.specs.Unchanged.{TurnsPass}
use Rattle.cable_world.specs.Parts.{world_record}
use Rattle.cable_world.proofs.world.WorldWorldRun.run_turns.Given as goal

-- the world of what is kept
abbrev pub invariant-loop : goal.invariant-loop
invariant-loop g l =
    let self = l.self in
    let first = l.initial.self in
    let now = world_record self.delay self.longest self.cabling (map g.M.PortMachine.record_of self.machines.items) self.wires.items self.changed.items self.turns in
    let old = world_record first.delay first.longest first.cabling (map g.M.PortMachine.record_of first.machines.items) first.wires.items first.changed.items first.turns in
    record {
      good : self.spent ≡ false;
      reached : now ≡ turns_after l.counter old;
      passed : TurnsPass l.counter old now;
    }

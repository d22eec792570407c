use Rattle.std.proofs.Common.{◌≡◌, ◌+◌, false, length, map}
use Rattle.cable_world.specs.Turn.{turns_after}
use Rattle.cable_world.specs.Parts.{world_record}
use Rattle.world_agenda.specs.Clock.{caught_up}
use Rattle.world_agenda.proofs.agenda.AgendaWorldWorldRun.run_turns.Given as goal

-- what is left leads to the same world
abbrev pub invariant-loop-left : goal.invariant-loop-left
invariant-loop-left g l =
    let r = g.M.PortMachine.record_of in
    let self = l.self in
    let first = l.fn.self in
    let now = world_record self.delay self.longest self.cabling (map (λ n. caught_up self.turns n.clock (r n.machine)) self.nodes.items) self.wires.items self.changed.items self.turns in
    let old = world_record first.delay first.longest first.cabling (map (λ n. caught_up first.turns n.clock (r n.machine)) first.nodes.items) first.wires.items first.changed.items first.turns in
    record {
      sound : self.spent ≡ false;
      nodes : length self.nodes.items ≡ length first.nodes.items;
      turns : self.turns + l.left ≡ first.turns + l.count;
      leads : turns_after l.left now ≡ turns_after l.count old;
    }

abbrev pub decreases-loop-left : goal.decreases-loop-left
decreases-loop-left g l = l.left

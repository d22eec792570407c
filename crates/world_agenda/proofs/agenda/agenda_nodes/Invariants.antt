use Rattle.std.proofs.Common.{◌≡◌, All, map}
use Rattle.world_agenda.proofs.agenda.agenda_nodes.Given as goal

abbrev pub invariant-loop-machine : goal.invariant-loop-machine
invariant-loop-machine g l = record {
  nodes : map (λ n. g.M.PortMachine.record_of n.machine) l.nodes.items ≡ map g.M.PortMachine.record_of l.yielded;
  clocks : All (λ n. n.clock ≡ 0) l.nodes.items;
}

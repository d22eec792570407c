use Rattle.std.proofs.Common.{◌≡◌, ◌+◌, All, map, drop, take}
use Rattle.world_agenda.specs.Clock.{caught_up}
use Rattle.world_agenda.proofs.nodes.catch_up.Given as goal
use Rattle.cable_world.proofs.Lemmas.{mixed}

abbrev pub invariant-loop-at : goal.invariant-loop-at
invariant-loop-at g l =
    let f = g.M.PortMachine.record_of in
    record {
      nodes : map (λ n. f n.machine) l.nodes
          ≡ mixed l.at (map (λ n. caught_up l.turns n.clock (f n.machine)) l.initial.nodes) (map (λ n. f n.machine) l.initial.nodes);
      past : drop l.at l.nodes ≡ drop l.at l.initial.nodes;
      clocks : All (λ n. n.clock ≡ l.turns) (take l.at l.nodes);
      ends : map (λ n. n.clock + n.idle) l.nodes ≡ map (λ n. n.clock + n.idle) l.initial.nodes;
    }

use Rattle.std.proofs.Common.{◌≡◌, ◌+◌, ◌<◌, ◌≤◌, ℕ, All, length, map, get_or}
use Rattle.cabling.specs.NodeSet.{Holds, IsWithin}
use Rattle.port_state.specs.Machine.{NodeStep}
use Rattle.cable_world.specs.Turn.{all_wires_after_sends, last_changes}
use Rattle.cable_world.specs.running.Steps.{turns_of}
use Rattle.world_agenda.specs.declared.node.AgendaNode.{AgendaNode}
use Rattle.world_agenda.specs.Agenda.{AreBelow, IdlesBut}
use Rattle.world_agenda.specs.Live.{HasLive}
use Rattle.world_agenda.specs.Clock.{caught_up}
use Rattle.world_agenda.proofs.Blend.{Blended}
use Rattle.world_agenda.proofs.nodes.turn_nodes.Given as goal

abbrev pub invariant-loop-node : goal.invariant-loop-node
invariant-loop-node g l =
    let f = g.M.PortMachine.record_of in
    let first = l.initial.nodes in
    let old = map (λ n. caught_up l.turns n.clock (f n.machine)) first in
    let steps = turns_of l.arrivals l.cabling old in
    let new = map (λ (s : NodeStep). s.node) steps in
    record {
      left : IsWithin l.left l.fn.visited;
      nodes : Blended l.left new (map (λ n. caught_up (l.turns + 1) n.clock (f n.machine)) first)
          (map (λ n. caught_up (l.turns + 1) n.clock (f n.machine)) l.nodes);
      waiting : (k : ℕ) (d : AgendaNode g.row.M.Denot g.M.PortMachine) → k < length first → Holds l.left k →
          get_or l.nodes k d ≡ get_or first k d;
      changes : Blended l.left (last_changes (l.turns + 1) old new l.initial.changed) l.initial.changed l.changed;
      wires : Blended l.left (all_wires_after_sends steps l.initial.wires) l.initial.wires l.wires;
      behind : All (λ n. n.clock ≤ l.turns + 1) l.nodes;
      idle : All (λ n. l.turns ≤ n.clock + n.idle) l.nodes;
      ahead : IdlesBut l.left (l.turns + 1) (map (λ n. n.clock + n.idle) l.nodes);
      soon : (k : ℕ) → k < length first → (Holds l.left k → ⊥) → (Holds l.agenda.soon k → ⊥) →
          l.agenda.next ≤ get_or (map (λ n. n.clock + n.idle) l.nodes) k 0;
      near : AreBelow l.agenda.soon (length first);
      live : HasLive l.live l.wires;
    }

abbrev pub decreases-loop-node : goal.decreases-loop-node
decreases-loop-node g l = l.left

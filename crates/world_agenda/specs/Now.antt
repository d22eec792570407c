-- The nodes of an agenda, as they are when so many turns are done.
use Rattle.std.specs.Prelude.{ℕ, List, map}
use Rattle.port_state.specs.declared.machine.PortMachine.{Ghosts}
use Rattle.port_state.specs.Machine.{PortNode}
use Rattle.world_agenda.specs.declared.node.AgendaNode.{AgendaNode}
use Rattle.world_agenda.specs.Clock.{caught_up}

-- each with the turns since the one that it stands at
abbrev pub now_at : {M : Type 0} {g : Ghosts M} → ℕ → List (AgendaNode M g) → List PortNode
now_at {M} {g} turns nodes = map (λ n. caught_up turns n.clock (g.record_of n.machine)) nodes

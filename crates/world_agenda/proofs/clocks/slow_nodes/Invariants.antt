use Rattle.std.proofs.Common.{◌≡◌, ◌<◌, ℕ, true, Some, map, slice_get}
use Rattle.cabling.specs.NodeSet.{Holds}
use Rattle.port_state.specs.Clock.{is_even}
use Rattle.port_state.specs.Machine.{PortNode}
use Rattle.world_agenda.specs.Agenda.{AreBelow}
use Rattle.world_agenda.proofs.clocks.slow_nodes.Given as goal

-- of the machines so far those that aren't even are noted
abbrev pub invariant-loop-at : goal.invariant-loop-at
invariant-loop-at g l = record {
  near : AreBelow l.slow l.at;
  evens :
      (k : ℕ) (x : PortNode) → k < l.at → slice_get (map g.M.PortMachine.record_of l.machines) k ≡ Some x →
      (Holds l.slow k → ⊥) → is_even x.clock ≡ true;
}

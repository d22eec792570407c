use Rattle.std.proofs.Common.{◌≡◌, All, length}
use Rattle.phy_machine.specs.Any.{any_node}
use Rattle.cable_world.specs.Times.{KeepsTime, longest_in_range}
use Rattle.cable_world.specs.World.{IsNodeAtPowerOn}
use Rattle.bus_tests.proofs.nodes.machines.Given as goal

-- those made so far were just powered on
abbrev pub invariant-loop-node : goal.invariant-loop-node
invariant-loop-node l = record {
  powered : All (λ m. IsNodeAtPowerOn l.d (any_node m).state) l.made.items;
  clocks : All (λ m. KeepsTime (longest_in_range l.d) (any_node m).state.timing (any_node m).clock) l.made.items;
  count : length l.made.items ≡ l.node-index;
}

use Rattle.std.proofs.Common.{◌≡◌, ℕ, ◌++◌, map, length, take, drop}
use Rattle.port_state.specs.PortSet.{all_sent}
use Rattle.port_state.specs.Sends.{sent_on}
use Rattle.cable_world.specs.Wire.{new_signal}
use Rattle.cable_world.specs.running.Rows.{on_port}
use Rattle.cable_world.proofs.wire.add_each.Given as goal

abbrev pub invariant-loop-entry : goal.invariant-loop-entry
invariant-loop-entry l = record {
  sent :
      (p : ℕ) → on_port p l.sent.items ++ map new_signal (sent_on p (all_sent (drop l.entry-index l.sends)))
      ≡ on_port p l.fn.sent.items ++ map new_signal (sent_on p (all_sent l.sends));
  behind : take (length l.fn.sent.items) l.sent.items ≡ l.fn.sent.items;
}

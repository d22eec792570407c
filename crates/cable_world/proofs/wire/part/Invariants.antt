use Rattle.std.proofs.Common.{◌≡◌, ℕ, [], map, take, drop, if◌then◌else◌}
use Rattle.port_state.specs.PortSet.{has_port}
use Rattle.cable_world.specs.running.Rows.{on_port, older}
use Rattle.cable_world.proofs.wire.part.Given as goal

abbrev pub invariant-loop-at : goal.invariant-loop-at
invariant-loop-at l = record {
  left : drop l.at l.arriving ≡ drop l.at l.initial.arriving;
  stays : (p : ℕ) → on_port p l.staying.items ≡ (if has_port l.ports p then map older (on_port p (take l.at l.initial.arriving)) else []);
  arrives : (p : ℕ) → on_port p (take l.at l.arriving) ≡ (if has_port l.ports p then [] else on_port p (take l.at l.initial.arriving));
}

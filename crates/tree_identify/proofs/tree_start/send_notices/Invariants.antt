use Rattle.std.proofs.Common.{◌≡◌, ◌+◌, ◌≤◌, ◌++◌, true, length, drop, if◌then◌else◌}
use Rattle.port_state.specs.declared.signal.Signal.TheVariants as signal
use Rattle.port_state.specs.Ports.{is_parent}
use Rattle.port_state.specs.Sends.{sends_from, notices}
use Rattle.tree_identify.proofs.tree_start.send_notices.Given as goal

abbrev pub invariant-loop-at : goal.invariant-loop-at
invariant-loop-at l = record {
  few : length l.out ≤ length l.initial.out + l.at;
  sent :
      l.out ++ sends_from l.at (λ k. true) (λ p. if is_parent p.shown then signal.Child else signal.Parent) (drop l.at l.ports)
      ≡ l.initial.out ++ notices l.ports;
}

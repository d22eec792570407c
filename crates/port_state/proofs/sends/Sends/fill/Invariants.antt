use Rattle.std.specs.Prelude.{◌≡◌, ◌≤◌, ◌++◌, length}
use Rattle.port_state.proofs.sends.Sends.fill.Given as goal

abbrev pub invariant-loop-port : goal.invariant-loop-port
invariant-loop-port l = (l.self ++ l.port-iterator ≡ l.outbox) × (length l.outbox ≤ 112)

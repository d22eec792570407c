use Rattle.std.proofs.Common.{◌≡◌, ℕ, ◌<◌, ◌&&◌, length, get_or}
use Rattle.std.specs.Prelude.{nat_lt}
use Rattle.port_state.specs.PortSet.{has_port}
use Rattle.cable_world.specs.running.Rows.{keeps}
use Rattle.cable_world.proofs.rows.keeping.Given as goal

abbrev pub invariant-loop-port : goal.invariant-loop-port
invariant-loop-port l =
    (k : ℕ) → k < length l.held → has_port l.kept k ≡ (nat_lt k l.port && keeps l.delay k l.sent (get_or l.held k 0))

use Rattle.std.proofs.Common.{◌≡◌, ℕ, ◌<◌, length, slice_index}
use Rattle.cable_world.specs.running.Rows.{on_port}
use Rattle.cable_world.proofs.tally.Tally.count_all.Given as goal

abbrev pub invariant-loop-port : goal.invariant-loop-port
invariant-loop-port l = record {
  long : length l.counts ≡ 16;
  done : (p : ℕ) → p < l.port → slice_index l.counts p ≡ length (on_port p l.sent);
}

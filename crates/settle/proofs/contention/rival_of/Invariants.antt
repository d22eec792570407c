use Rattle.std.proofs.Common.{ℕ, ◌<◌}
use Rattle.settle.specs.codings.Reading.{Contend}
use Rattle.settle.proofs.contention.rival_of.Given as goal

abbrev pub invariant-loop-other : goal.invariant-loop-other
invariant-loop-other g l = (b : ℕ) → b < l.other → Contend (g.W.WorldRun.world l.world) l.node b → ⊥

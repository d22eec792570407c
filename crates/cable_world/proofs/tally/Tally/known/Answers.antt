use Rattle.std.proofs.Common.{inl, inr, arith}
use Rattle.cable_world.proofs.running.Tally.{none-known}
use Rattle.cable_world.proofs.tally.Tally.known.Goals.{then-self-eq0-via-then-self-eq0, then-self-eq0-via-else-self-eq0+then-port-ge16}
use Rattle.cable_world.proofs.tally.Tally.known.Goals as goal

pub returns-then-self-eq0 : goal.returns-then-self-eq0
returns-then-self-eq0 c = λ sent is.
    none-known c.args.self.now c.args.port sent (elim c.then-self-eq0.branch [
      | then-self-eq0-via-then-self-eq0 w ↦ inl (omega (arith, w.if-self-eq0.true))
      | then-self-eq0-via-else-self-eq0+then-port-ge16 w ↦ inr (omega (arith, w.if-port-ge16.true))
    ])

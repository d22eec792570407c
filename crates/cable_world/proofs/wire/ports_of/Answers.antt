use Rattle.std.proofs.Common.{◌<◌, length, arith}
use Rattle.cable_world.proofs.running.Rows.{union-more}
use Rattle.cable_world.proofs.wire.ports_of.Goals as goal

pub loop-entry-preserved : goal.loop-entry-preserved
loop-entry-preserved c = λ p.
    let inside : c.loop-entry.entry-index < length c.args.sent.now = omega arith in
    union-more p c.args.sent.now c.loop-entry.entry-index c.loop-entry.ports c.union-ports.result c.entry-item.result inside c.entry-item.is
    (c.union-ports.ensures p) (c.loop-entry.invariant p)

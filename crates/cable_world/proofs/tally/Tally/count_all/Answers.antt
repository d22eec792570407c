use Rattle.std.proofs.Common.{◌<◌, ◌∙◌, length, arith}
use Rattle.std.proofs.lemmas.List.{length-set}
use Rattle.cable_world.proofs.running.Tally.{count-more, few-on}
use Rattle.cable_world.proofs.tally.Tally.count_all.Goals as goal

pub overflow_cast-counts : goal.overflow_cast-counts
overflow_cast-counts c = let few = few-on c.loop-port.port c.args.sent.now in search (arith, few)

pub loop-port-preserved : goal.loop-port-preserved
loop-port-preserved c =
    let long = c.loop-port.invariant.long in
    let inside : c.loop-port.port < length c.loop-port.counts = omega (arith, long, c.loop-port-test.true, c.loop-port.auto.port-end) in
    record {
      long = length-set c.loop-port.counts c.loop-port.port c.count.result ∙ long;
      done = count-more c.loop-port.port c.count.result c.loop-port.counts c.args.sent.now inside c.count.ensures c.loop-port.invariant.done;
    }

use Rattle.std.proofs.Common.{◌≡◌, arith}
use Rattle.std.proofs.lemmas.Grind.{common_steps}
use Rattle.quad_lanes.specs.Pairs.{quads_of}
use Rattle.quad_lanes.proofs.Quadlets.{length-quads_of}
use Rattle.quad_lanes.proofs.pairs.quads_of.Goals as goal

pub returns-clause-count : goal.returns-clause-count
returns-clause-count c =
    let whole : c.loop-rest.quads ≡ quads_of c.args.bytes.now = grind (arith, common_steps) in
    rw whole (length-quads_of _)

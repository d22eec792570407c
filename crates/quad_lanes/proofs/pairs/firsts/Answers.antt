use Rattle.std.proofs.Common.{◌≡◌, arith}
use Rattle.std.proofs.lemmas.Grind.{common_steps}
use Rattle.quad_lanes.specs.Pairs.{firsts}
use Rattle.quad_lanes.proofs.Quadlets.{length-firsts}
use Rattle.quad_lanes.proofs.pairs.firsts.Goals as goal

pub returns-clause-count : goal.returns-clause-count
returns-clause-count c =
    let whole : c.loop-rest.list ≡ firsts c.args.quads.now = grind (arith, common_steps) in
    rw whole (length-firsts _)

use Rattle.std.proofs.Common.{◌≡◌, arith}
use Rattle.std.proofs.lemmas.Grind.{common_steps}
use Rattle.cabling.specs.Wiring.{without_cables}
use Rattle.cabling.proofs.Ends.{bare}
use Rattle.cabling.proofs.wiring.Cabling.new.Goals as goal

pub invariant_of-result : goal.invariant_of-result
invariant_of-result c =
    let all : c.loop-count.nodes.items ≡ without_cables c.args.ports.now = grind (arith, common_steps) in
    rw all (bare c.args.ports.now c.requires.few c.requires.counts)

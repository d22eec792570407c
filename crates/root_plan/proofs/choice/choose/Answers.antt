use Rattle.std.proofs.Common.{arith, true, ◌∙◌, ap, sym}
use Rattle.phy_packet.specs.Packet.{quad_of}
use Rattle.phy_packet.specs.declared.packet.PhyPacket.TheVariants.{Config}
use Rattle.root_plan.proofs.choice.choose.Goals as goal

pub returns-clause-plan : goal.returns-clause-plan
returns-clause-plan c =
    let best = c.best_candidate-best.ensures in
    let hops = c.hops-hops.ensures.longest in
    let gap = c.gap_for.ensures.value in
    record {
      candidate = best.candidate;
      far = best.is_reach;
      least = λ id reach candidate is. best.least id reach (omega arith) candidate is;
      highest = λ id candidate is. best.highest id (omega arith) candidate is;
      hops = hops;
      gap = gap;
      packet = c.plan_config.ensures _ hops
          ∙ ap (λ found. quad_of (Config c.best_candidate-best.result.id true true found 0)) (sym gap);
    }

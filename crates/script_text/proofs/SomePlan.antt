-- Each bus tree with a candidate has a plan.
use Rattle.std.proofs.Common.{ℕ, true, refl}
use Rattle.phy_packet.specs.Packet.{quad_of}
use Rattle.phy_packet.specs.declared.packet.PhyPacket.TheVariants.{Config}
use Rattle.bus_manager.specs.Gap.{gap_of}
use Rattle.bus_manager.proofs.Lemmas.{reach, is_hops}
use Rattle.root_plan.specs.SomeChoice.{HasBestRoot, BestRootsExist}
use Rattle.script_text.specs.SomePlan.{PlansExist}

pub some-plan : BestRootsExist → PlansExist
some-plan best t id bus is =
    let b : HasBestRoot t = best t id bus is in
    let hops : ℕ = (reach t).longest in
    record {
      plan = record {
        root_id = b.root;
        hops = hops;
        gap = gap_of hops;
        far = b.far;
        packet = quad_of (Config b.root true true (gap_of hops) 0);
      };
      is = record {
        candidate = b.candidate;
        far = b.reach;
        least = b.least;
        highest = b.highest;
        hops = is_hops t;
        gap = refl;
        packet = refl;
      };
    }

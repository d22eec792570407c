use Rattle.std.proofs.Common.{ℕ, ap, ◌∙◌, true}
use Rattle.phy_packet.specs.Packet.{quad_of}
use Rattle.phy_packet.specs.declared.packet.PhyPacket.TheVariants.{Config}
use Rattle.bus_manager.specs.Gap.{gap_of}
use Rattle.bus_manager.proofs.OneHops.{one_hops}
use Rattle.bus_manager.proofs.plan.plan_config.Goals as goal

pub returns : goal.returns
returns c = λ h is.
    c.encode.ensures ∙ ap (λ (g : ℕ). quad_of (Config c.args.root_id true true g 0)) (c.gap_for.ensures.value ∙ ap gap_of (one_hops c.args.tree.now c.hops.result h c.hops.ensures.longest is))

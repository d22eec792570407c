-- The plan of a bus manager: which node is to be root, and with which gap count.
use Rattle.std.specs.Prelude.{◌≡◌, true}
use Rattle.phy_packet.specs.Packet.{quad_of}
use Rattle.phy_packet.specs.declared.packet.PhyPacket.TheVariants.{Config}
use Rattle.topology_stack.specs.Tree.{Tree, walk}
use Rattle.topology_stack.specs.Elect.{IsCandidate}
use Rattle.bus_manager.specs.Gap.{gap_of}
use Rattle.bus_manager.specs.Hops.{IsHops}
use Rattle.root_plan.specs.Reach.{IsReach}
use Rattle.root_plan.specs.Choice.{NoneReachesLess, NoneIsHigher}
use Rattle.root_plan.specs.declared.choice.RootPlan.{RootPlan}

-- The plan for a tree: the root is the candidate of least reach, and of these the one with the
-- highest ID. The gap count suits the tree's hops, and the packet names both.
pub record IsPlan (t : Tree) (plan : RootPlan) : Type 0 where
  pub candidate : IsCandidate (walk t) plan.root_id
  pub far : IsReach t plan.root_id plan.far
  pub least : NoneReachesLess t plan.far
  pub highest : NoneIsHigher t plan.root_id plan.far
  pub hops : IsHops t plan.hops
  pub gap : plan.gap ≡ gap_of plan.hops
  pub packet : plan.packet ≡ quad_of (Config plan.root_id true true plan.gap 0)

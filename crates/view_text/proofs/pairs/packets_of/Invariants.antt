use Rattle.std.proofs.Common.{List, ◌++◌, length}
use Rattle.phy_packet.specs.declared.packet.PhyPacket.{PhyPacket}
use Rattle.quad_lanes.specs.Pairs.{firsts}
use Rattle.view_text.specs.Pairs.{ArePacketsOf}
use Rattle.view_text.proofs.pairs.packets_of.Given as goal

-- with the packets of the rest behind them, they are those of all pairs
abbrev pub invariant-loop-rest : goal.invariant-loop-rest
invariant-loop-rest l = (others : List PhyPacket) → ArePacketsOf (firsts l.rest) others → ArePacketsOf (firsts l.quads) (l.packets.items ++ others)

abbrev pub decreases-loop-rest : goal.decreases-loop-rest
decreases-loop-rest l = length l.rest

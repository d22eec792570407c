pub use Rattle.resource_manager.specs.Register
pub use Rattle.topology_stack.specs.Tree
pub use Rattle.phy_packet.specs.Packet
pub mod Hops
pub mod Gap
pub mod Election
pub mod codings

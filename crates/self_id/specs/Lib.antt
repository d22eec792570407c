pub use Rattle.phy_packet.specs.Layout
pub use Rattle.phy_packet.specs.Packet
pub mod Node
pub mod Slots
pub mod Group
pub mod Refused
pub mod codings

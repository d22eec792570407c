pub use Rattle.topology_map.specs.Crc
pub use Rattle.bus_manager.specs.Gap
pub mod Events
pub mod Packets
pub mod Reading
pub mod Reader
pub mod Registers
pub mod Sentences

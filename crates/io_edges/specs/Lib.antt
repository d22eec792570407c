pub mod Adapted
pub mod Faults
pub mod InMemory
pub mod Told
pub mod Streams

-- What happens on the bus of a script as waveforms: a Value Change Dump.
pub mod Value
pub mod Change
pub mod Moment
pub mod Head
pub mod Waves
pub mod OneDump

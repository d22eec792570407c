-- Devices of the proofs. No public contract cites these files.
pub mod ClockCode
pub mod OneProof
pub mod PortWords
pub mod WordsBack

pub mod Flaw
pub mod Spoilt
pub mod Other
pub mod Few
pub mod Draws
pub mod SeededNode
pub mod SeededBus
pub mod SeededFlaw

pub mod Clock
pub mod Agenda
pub mod Live
pub mod Slow
pub mod Heard
pub mod Alone
pub mod Now

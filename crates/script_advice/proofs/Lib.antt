pub mod Pulling
pub mod Advising
pub mod Settled
pub mod OneAdvice
pub mod NoLoop
pub mod Fewest
pub mod Lemmas

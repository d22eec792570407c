pub mod Advice
pub mod OneAdvice
pub mod Advising

pub mod Advised
pub mod Cables
pub mod Certificate
pub mod Order
pub mod Pulled
pub mod SomeAdvice
pub mod codings

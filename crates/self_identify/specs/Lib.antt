pub mod IdentStep

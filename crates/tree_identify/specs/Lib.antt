pub mod TreeStep

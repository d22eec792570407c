pub mod Parts
pub mod Usages
pub mod Columns
pub mod WordColumns
pub mod Distinct

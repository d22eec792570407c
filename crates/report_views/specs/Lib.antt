pub mod PlainGraph
pub mod ReportGraph
pub mod ReportJson
pub mod OneView
pub mod Dots
pub mod codings

-- what is reported
pub mod Reported
pub mod Report
pub mod ReadBack
pub mod OneReport
pub mod ReportedOutcome
pub mod QuietTurns
pub mod SomeReport
pub mod SomeWalk
-- who is reported as root where one node is forced
pub mod Forced
-- a bus manager's plan
pub mod Planned
pub mod Hops
-- how it is found
pub mod codings

-- A script has one run at most, and each of its reports is one of a settled bus.
--
-- `Cables`: acts and turns leave cables that are a cabling, over which a world has one report.
-- `Commands`: a command comes to one answer. `Fitting`: times that suit a bus. `Reached`: it leaves a world that comes of power-on.
-- `Slowed`: a line that slows a clock leaves nodes that suit a bus.
-- `Lines`: what follows at a stage, and that lines have one run. `EachDone`: what holds of each command
-- of a run. `EachReport`: what reports say. `ReachedRuns`: the worlds of a run. `Answers`:
-- a fact of each answer. `EntryRuns`: the events of each command. `PrintedTree`: a
-- tree in what was printed. `PlanCarried`: what stands behind a plan. `Ends`: runs end in one way.
-- `Declared`: commands that declare, and those that don't.
pub mod Parts
pub mod Ends
pub mod Cables
pub mod Commands
pub mod Fitting
pub mod Reached
pub mod Slowed
pub mod Lines
pub mod EachDone
pub mod EachReport
pub mod ReachedRuns
pub mod Answers
pub mod EntryRuns
pub mod PrintedTree
pub mod PlanCarried
pub mod Declared

-- What crates above use of the proofs of this one, by what it is about.

-- A command comes to some answer.
pub use Rattle.script_told.proofs.SomeAnswer.{act-leads, if-test, known, tree-managed, within}
-- What turns leave as it is. A bus is given some to settle.
pub use Rattle.script_told.proofs.Turns.{AfterTurns, after-turns, nodes-after-turns, some-quiet}
-- Acts and turns leave cables that are a cabling, and an act leads to one world.
pub use Rattle.script_told.proofs.told.Cables.{IsCabled, act-adds, act-cabled, act-takes}
-- A command comes to one answer, and leaves cables that are a cabling.
pub use Rattle.script_told.proofs.told.Commands.{acts, bus-in, not-refused, one-walk, same-plan, same-sent, settles}
-- What holds of each command that was done in a run.
pub use Rattle.script_told.proofs.told.EachDone.{IsDone, IsEnd, each-done}
-- Times that suit a bus.
pub use Rattle.script_told.proofs.told.Fitting.{can-be-forced, profile-fits, standard-fits, suits, times-within}
-- Each report of a script is one of a settled bus.
pub use Rattle.script_told.proofs.told.EachReport.{Says, is-none, settled-so, settles-say}
-- What follows at a stage, and that a script has one run.
pub use Rattle.script_told.proofs.told.Lines.{cabled, one-run, one-told, says, slows}
-- The parts of answers.
pub use Rattle.script_told.proofs.told.Parts.{printed-in, stage-in, text-in}
-- How runs and their results end: well or with a fault, and in one way.
pub use Rattle.script_told.proofs.told.Ends.{not-both, same-end, same-fault}
-- A command declares or not, and on a bus that runs none does.
pub use Rattle.script_told.proofs.told.Declared.{declares-or-not, late}
-- The events of each command.
pub use Rattle.script_told.proofs.told.EntryRuns.{scripts-are-runs, runs-on}
-- A tree of a report stands in its text.
pub use Rattle.script_told.proofs.told.PrintedTree.{prints-gap, prints-tree, same-report}
-- A plan that has an answer was carried out.
pub use Rattle.script_told.proofs.told.PlanCarried.{plan-carried}
-- A line that slows a clock leaves nodes that suit a bus.
pub use Rattle.script_told.proofs.told.Slowed.{slow-so, slowed-draft, slows-sound}
-- A command leaves a bus whose world comes of power-on, and so does each line of a script.
pub use Rattle.script_told.proofs.told.Reached.{config-act, plan-act, draft-power, IsSound, IsSoundDraft, LeavesSound, attrs_said, do-act, do-settle, drafted, leaves, no-nodes, node-at-power-on, onwards-sound, sound-bus}

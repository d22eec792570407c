-- How the laws of worlds are proved. Read the folders in this order; each of their heads says more.
--
--   turns     what a turn makes of one node, and of each node and wire by number (`turn_by_number`)
--   tables    a world's tables fit its cables, at power-on and after turns, holds and acts
--   levels    the level that a node last sent is under way or shown
--   coupling  what holds at the two ends of a cable, so that child ports lead to parent ports
--   acts      what happens between two turns to each node and to each end of a cable
--   resets    in quiet turns resets end (`resets_end`)
--   worked    runs that the check computes
--   running   worlds that run: how the code goes from item to item
--
-- `StaysLawful` joins tables, levels and coupling (`worlds_stay_lawful`); `StaysReached` has
-- `worlds_stay_reached`, `QuietTurns` has `quiet_turns_add_up`, `Rests` has
-- quiet turns one after the other, `OneOutcome` has `outcomes_are_one`. `PhaseFacts` and `Options` are used throughout.
pub mod turns
pub mod tables
pub mod levels
pub mod coupling
pub mod acts
pub mod resets
pub mod worked
pub mod running
pub mod PhaseFacts
pub mod Times
pub mod Options
pub mod OneProof
pub mod StaysReached
pub mod StaysLawful
pub mod QuietTurns
pub mod Rests
pub mod OneOutcome
pub mod Fitting
pub mod Lemmas

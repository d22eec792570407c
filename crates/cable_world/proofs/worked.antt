-- Runs that the check computes from the definitions, turn by turn.
--
-- `Summary` has the words of a row. `TwoNodes`, `ThreeNodes`, `Held` (a hold keeps one end from
-- seeing the contention), `Desk` (a camera pulled while its packet is under way), `ChosenRoot` (a
-- configuration packet), `Loops` (a loop that times out, a contention that goes on). `Outcomes` has
-- how they end, by `Settled`; `Reached`, that they come of a power-on world.
--
-- Each inequality of `specs/Times.antt` is needed: in `ShortHold`, `ShortWait`, `LongWait` and
-- `Uncounted` one alone fails, and the world never settles, by `NeverSettles`. `ComesOf` has that no
-- event of these runs is refused. (A force time that is too short: outcomes, worked/ShortForce.)
-- `Times`: times that barely suit a bus. `Standards`: those of the standards, at the greatest delays.
--
-- Clocks that miss turns: `SlowClock`, with its run; `OftenMissed`, a clock that keeps no pace, so that the
-- world never settles; `SlowWait`, a long wait that is a turn too short for it; `SlowLeaf`, where it changes
-- who is root.
pub mod Summary
pub mod TwoNodes
pub mod ThreeNodes
pub mod Held
pub mod Desk
pub mod ChosenRoot
pub mod Loops
pub mod Settled
pub mod Outcomes
pub mod Reached
pub mod ComesOf
pub mod NeverSettles
pub mod ShortHold
pub mod ShortWait
pub mod LongWait
pub mod Uncounted
pub mod Times
pub mod Standards
pub mod SlowClock
pub mod OftenMissed
pub mod SlowWait
pub mod SlowLeaf

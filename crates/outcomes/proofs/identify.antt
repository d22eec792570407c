-- What two ends of a cable know of grants, packets and Done (IsIdentifying).
--
-- `Messages`, `OneMessage`: lists of signals, and what Grant and Done have in common (IsKind).
-- `LateRows`: the cases of a tick. `Ports`, `MarksKept`: a node's record (IsMarked). `Hearing`,
-- `HearAll`, `GreetTicks`: a node hears and ticks. `Lines`, `LinedHears`, `LinedTicks`,
-- `LinedTurn`: a child cable, at either end (Line). `GreetsTurn`, `IdentifiesTurn`: how the ends
-- come to self identify, and what they tell each other, is kept by a turn. `IdentifyingTurn`
-- says it of worlds, `IdentifyingActs` of acts and holds, `StaysIdentifying` of runs.
-- `ListsFollow` and `Holders` have the laws that follow from it.
pub mod Messages
pub mod OneMessage
pub mod Ports
pub mod LateRows
pub mod MarksKept
pub mod Hearing
pub mod HearAll
pub mod GreetTicks
pub mod Lines
pub mod LinedHears
pub mod LinedTicks
pub mod LinedTurn
pub mod GreetsTurn
pub mod IdentifiesTurn
pub mod IdentifyingTurn
pub mod IdentifyingActs
pub mod StaysIdentifying
pub mod ListsFollow
pub mod Holders

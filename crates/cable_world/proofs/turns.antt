-- A turn, for one node and for all.
--
-- `ByNumber` says what a turn makes of node number k and of the wire of an end: the laws
-- `turn_by_number`, `turn_keeps` and `turns_add_up`. `NodeFacts` has two records of all that is to
-- be known of a node that hears signals and of one that ticks; `HearsWell` and `TicksWell` prove
-- them, row by row. `TurnParts` joins both to a turn, and says what comes to a port.
pub mod ByNumber
pub mod NodeFacts
pub mod HearsWell
pub mod TicksWell
pub mod TurnParts

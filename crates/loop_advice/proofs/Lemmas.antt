-- What crates above use of the proofs of this one, by what it is about.

-- What stands before a cable in a rising list.
pub use Rattle.loop_advice.proofs.Before.{same_low}
-- The cables of a set of nodes are found end by end.
pub use Rattle.loop_advice.proofs.Collecting.{rising_once}
-- No fewer cables than the pulls of a valid advice leave no loop.
pub use Rattle.loop_advice.proofs.Fewest.{no_fewer}
-- Cables in lists.
pub use Rattle.loop_advice.proofs.Listed.{lists_append, lists_left, lists_right}
-- What marks say of the cables whose ends were marked.
pub use Rattle.loop_advice.proofs.Marking.{cable}
-- Where the pulls of a valid advice are gone, no loop is left.
pub use Rattle.loop_advice.proofs.Without.{Without, no_loop_left}

-- What crates above use of the proofs of this one, by what it is about.

-- A world that runs gives each node time enough to be forced.
pub use Rattle.outcomes.proofs.forced.Waits.{reached-enough}
-- Each step keeps what a record tells of the identification of its node.
pub use Rattle.outcomes.proofs.identify.MarksKept.{ready-hears}
-- What is so of self identify holds in every world that comes of a power-on world.
pub use Rattle.outcomes.proofs.identify.StaysIdentifying.{quiet-identifying, comes-identifying}
-- Once all nodes are in A0 the root's list spreads: on each cable the packets come within d turns.
pub use Rattle.outcomes.proofs.numbers.Spreads.{tree-soon}
-- The turn in which the last node of a component comes to self identify: from there lists follow
-- the walk, so that the component comes to its tree.
pub use Rattle.outcomes.proofs.settled.Beginnings.{nodes-there}
-- The set of a component has 63 nodes at most.
pub use Rattle.outcomes.proofs.settled.Components.{component-small, small-fresh}
-- An act leaves a component alone in which no node enters R0, and what is so of its self identify.
pub use Rattle.outcomes.proofs.settled.Elsewhere.{same-component}
-- Where one node alone waits to become root, the component comes to a tree with that root; and a
-- configuration packet makes it so.
pub use Rattle.outcomes.proofs.settled.ForcedOutcome.{forced-outcome}
-- In every reached world the lists of a component follow its walk, once all its nodes are in self
-- identify or A0.
pub use Rattle.outcomes.proofs.settled.Numbering.{quiet-numbering, comes-numbering}
-- Whichever way a component without loop is decided, it has an outcome.
pub use Rattle.outcomes.proofs.settled.Outcomes.{tree-ready}
-- Quiet turns, with the holds between them in a schedule.
pub use Rattle.outcomes.proofs.settled.QuietRuns.{ComesBy, comes-by}
-- After so many quiet turns every component has an outcome.
pub use Rattle.outcomes.proofs.settled.QuietTurns.{done-at-last, range-enough, room-to-rest}
-- A component that has come to a tree is at rest, and so it stays in its tree.
pub use Rattle.outcomes.proofs.settled.TreesStay.{act-tree, tree-rests}
-- In a component with a loop no node is granted, so none gets an ID: who is granted was asked by a
-- node above that is granted too, and so on up to a root, which there isn't.
pub use Rattle.outcomes.proofs.settled.Unnamed.{loop-outcome, shows-unnamed}
-- The marks of a seen tree, port by port.
pub use Rattle.outcomes.proofs.walks.Marked.{in-read, one-place}

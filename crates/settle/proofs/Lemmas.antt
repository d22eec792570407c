-- What crates above use of the proofs of this one, by what it is about.

-- What is reported of a component that came to a tree from a root.
pub use Rattle.settle.proofs.Found.{found}
-- The gap count of the nodes of a tree is read from its list.
pub use Rattle.settle.proofs.GapsRead.{part-reads}
-- A world has one report at most.
pub use Rattle.settle.proofs.OneReport.{one-over-cabling}
-- Trees that are seen with different labels have their nodes in one order.
pub use Rattle.settle.proofs.Relabelled.{one-order}
-- A component came to a tree whichever number stands for its set of nodes.
pub use Rattle.settle.proofs.SameNodes.{same-component, same-tree}
-- How many quiet turns a world is given, and that these are enough.
pub use Rattle.settle.proofs.QuietCount.{turns-enough}
pub use Rattle.settle.proofs.TurnsGiven.{same-quiet}
-- What is there once a plan is carried out.
pub use Rattle.settle.proofs.Carried.{gap-of, nodes-stay, tree-from}
-- A plan for the tree that a list tells suits the component that has the list.
pub use Rattle.settle.proofs.Chosen.{suits}
-- What a plan finds: the tree of a component, and the node that has its ID.
pub use Rattle.settle.proofs.Suited.{from-there, gap-fits, not-refused, packet-fits}

-- What crates above use of the proofs of this one, by what it is about.

-- One node put into a set or taken out of it, the first nodes, two sets, and sets of small numbers.
pub use Rattle.cabling.proofs.Bits.{below, clear_bit, in_both, inserted-holds, inserted-others, inserted-small, none_of_zero, small-set, some_node}
-- Where no part of a set is looped, a node with at most one cable into the rest can be taken away, and
-- it needn't be the root.
pub use Rattle.cabling.proofs.Cascade.{Less, holds_or_not, less_by, less_within, not_gone, two_of, weak_or_all}
-- A node's component has one core.
pub use Rattle.cabling.proofs.Cores.{component_within}
-- How often numbers stand in a list, and how long a list is in which none stands twice.
pub use Rattle.cabling.proofs.Counting.{in_or_not}
-- What a write into the table of far ends changes, and that the table stays one of cables.
pub use Rattle.cabling.proofs.Ends.{added_by_writes, bare, cabling_added, cabling_taken, cases_end, far-other, far-same, none_some, one_other, plugged, same_but, same_end, same_length, same_ports, still_end, taken_by_writes, with_far}
-- Each node of a cabling has a component, and each set of nodes has a core.
pub use Rattle.cabling.proofs.Existing.{component_exists}
-- A part of a set without a core has a node with at most one cable into the part.
pub use Rattle.cabling.proofs.Leaves.{has_leaves}
-- The neighbours of a node, port by port.
pub use Rattle.cabling.proofs.Near.{end_at}
-- A seen tree holds each node of the component once.
pub use Rattle.cabling.proofs.Once.{In, Once, in_append, in_left, in_right}
-- One tree at most is seen from a root.
pub use Rattle.cabling.proofs.OneTree.{one-tree}
-- What is known where no fault was found, and what the two writes of a call then make.
pub use Rattle.cabling.proofs.Plugging.{Pluggable, can-pull, less, other_there, pluggable}
-- A cable that lies on no core is pulled: no node comes into a core, or out of one.
pub use Rattle.cabling.proofs.Pulling.{was-there}
-- Where ranks fall along each way from a node, the tree seen from it exists.
pub use Rattle.cabling.proofs.Seen.{RowAt, from_or_not, row_all, row_head, row_tail}
-- A seen tree is a bus tree, and its walk is what its nodes show.
pub use Rattle.cabling.proofs.Shown.{Fit, bus_seen, good_at, good_root, good_visits, labels_fit, walk_seen}
-- From each node of a component whose core is empty a tree is seen that has each node of it once.
pub use Rattle.cabling.proofs.Small.{Loopless, loopless, small_tree, tree_few, tree_once, tree_within}
-- The walk is made from its end: each visit that waits stands for the walk of the tree that is seen from it.
pub use Rattle.cabling.proofs.Waiting.{length-visits, node_of, nodes-visits, plain}
-- A component is a whole: its nodes share it, and a seen tree has each of them.
pub use Rattle.cabling.proofs.Whole.{from_set, seen_core, seen_loopless, set_of, shared, tree_has}
-- What a node shows of itself that was come to by a port, or by none: how the seen tree is written
-- as self-ID packets. No public contract cites this file.
pub use Rattle.cabling.specs.codings.Shown.{shown_node, status, statuses_from}
-- The nodes of a tree in the order of its walk, each with the port by which it is come to: how the
-- walk is found. No public contract cites this file.
pub use Rattle.cabling.specs.codings.Visits.{at_root, is_from, visits, visits_below}

-- How the laws of outcomes are proved. Read the folders in this order; each of their heads says
-- more.
--
--   walks     the walk of a tree, node by node and port by port
--   identify  what two ends of a cable know of grants, packets and Done
--             (`worlds_stay_identifying`, `lists_follow`, `self_identify_goes_on`)
--   roots     the walk that a root has (`roots_have_walks`, `named_roots_are_outcomes`)
--   numbers   lists follow the walk, until the tree is at rest (`walks_are_numbered`,
--             `trees_settle`, `trees_rest`)
--   forced    a node that waits alone becomes root (`resets_spread`,
--             `waiting_nodes_become_roots`, `configs_choose_roots`)
--   settled   every component comes to an outcome, and a tree stays (`worlds_stay_numbering`,
--             `loops_come_out`, `components_settle`, `trees_stay`, `forced_roots_settle`)
--   worked    runs that the check computes
pub mod Common
pub mod walks
pub mod identify
pub mod roots
pub mod numbers
pub mod forced
pub mod settled
pub mod worked
pub mod Lemmas

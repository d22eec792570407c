-- How the laws of worlds are proved.
--
--   ActCables     what an act does to the cables, and to a cable that it doesn't pull
--   Arriving      each signal that is under way is heard within d turns (`signals_arrive`)
--   NodeByNumber  what a step of one node makes of each node and wire
--   ActsByNumber  so for each act (`acts_by_number`)
--   SentInActs    what is sent over a cable in an act
--   LastChanges   when lists last changed (`changes_are_noted`)
--   SmallSets     the nodes of a component exist
--   Touched       which nodes an act resets, and what it leaves alone
--                 (`acts_touch_their_component`)
--   Freshness     which components are fresh (`acts_make_fresh`, `waiting_roots_settle`)
--   DoneMilestone nobody enters a reset, and then resets are done (`entries_end`)
--   LoopMilestone each component with a loop comes to the outcome Loop (`loops_are_out`)
--   RestMilestone each tree comes to rest (`trees_are_at_rest`)
--   OnePair       one pair of rivals at most (`rivals_are_alone`)
--   ReadyPrefix   nodes get ready in the order of the walk (`ready_nodes_are_first`)
--   SeenTrees     whatever tree a cabling shows is a bus tree (`seen_trees_are_bus_trees`)
--   SlotTrees     and what a cabling shows is a bus tree (`bus_trees_are_cabled`)
--   WiringSlots   a wiring and its slots are one cabling, and show the same trees
--                 (`wirings_are_slots`)
--   LineText      what a node's line tells is read back
--   TreeText      trees with one text are alike but for what no text has (`texts_tell_trees`)
--   WorkedTexts   what a text leaves out, and the slots of a wiring
--   Worked        runs that the check computes
pub mod ActCables
pub mod Arriving
pub mod NodeByNumber
pub mod ActsByNumber
pub mod SentInActs
pub mod LastChanges
pub mod SmallSets
pub mod Touched
pub mod Freshness
pub mod DoneMilestone
pub mod LoopMilestone
pub mod RestMilestone
pub mod OnePair
pub mod ReadyPrefix
pub mod SeenTrees
pub mod SlotTrees
pub mod WiringSlots
pub mod LineText
pub mod TreeText
pub mod WorkedTexts
pub mod Worked

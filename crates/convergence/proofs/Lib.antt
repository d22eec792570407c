-- How the laws of convergence are proved. Read the folders in this order; each of their heads says
-- more.
--
--   turns   what one turn makes of a node and of a cable, and what comes through in d turns
--   sets    sets of nodes: what no cable leads out of, and how many there are
--   ranks   child cables form no cycle (`worlds_stay_acyclic`, `sets_have_ends`)
--   resets  resets are over, and then done (`resets_are_over`, `resets_are_done`)
--   loops   a loop gets no root, and reports that (`loops_stay_undecided`, `loops_are_reported`)
--   trees   without a loop every node takes its roles (`trees_are_taken`)
--   coins   who draws coins, and who wins (`worlds_stay_contested`, `few_draw_coins`,
--           `long_waits_win`)
--   rounds  tree identify ends, or two nodes draw 32 equal coins (`trees_are_decided`)
--
-- `AfterTurns` counts the turns from one milestone to the next, and from the last act.
pub mod Common
pub mod turns
pub mod sets
pub mod ranks
pub mod resets
pub mod loops
pub mod trees
pub mod coins
pub mod rounds
pub mod AfterTurns
pub mod worked
pub mod Lemmas

-- What crates above use of the proofs of this one, by what it is about.

-- A test that passes and fails gives anything.
pub use Rattle.convergence.proofs.Common.{contrary}
-- What is so after how many quiet turns.
pub use Rattle.convergence.proofs.AfterTurns.{decided-reached, done-after, reported-after, reported-reached, start-grown, taken-reached, taken-turn}
-- Late, two nodes of a component that drew coins are the ends of one cable, and no third one drew.
pub use Rattle.convergence.proofs.coins.Drawers.{no-third, pair-no-root, pair-only}
-- What nodes know of coins holds in every world that comes of a power-on world.
pub use Rattle.convergence.proofs.coins.StaysContested.{quiet-contested, comes-contested}
-- Where resets are over, no node of a loop takes its roles, and a component has one root at most.
pub use Rattle.convergence.proofs.loops.Cores.{Down, all-under, core-shows, down-in, no-root-with-loop, one-root, rooted-late}
-- What ranks are good for: sets of nodes that child cables don't leave, or don't enter.
pub use Rattle.convergence.proofs.ranks.Ranks.{has-top, none-rises-on}
-- What happens between turns only takes child cables away.
pub use Rattle.convergence.proofs.ranks.RanksInActs.{act-acyclic, hold-acyclic, power-on-acyclic}
-- A turn keeps a world acyclic: all nodes that take their roles in it get ranks above the others.
pub use Rattle.convergence.proofs.ranks.RanksInTurns.{turn-acyclic}
-- Every world that comes of a power-on world is acyclic.
pub use Rattle.convergence.proofs.ranks.StaysAcyclic.{quiet-acyclic, comes-acyclic}
-- In quiet turns nobody is in R0 or R1 any more, the longest hold and d turns after the last entry at the
-- latest.
pub use Rattle.convergence.proofs.resets.ResetsDone.{done-over, none-enters-done, resets-done, steady-enters}
-- After n * d quiet turns a Reset is under way to nodes in R0 alone: any other would enter
-- R0 when it comes.
pub use Rattle.convergence.proofs.resets.ResetsOver.{OldReset, none-older, old-after, resets-over, some-old}
-- A set of nodes, closed under cables, whose nodes know their tree, in a world in which resets are
-- done. It stays so; its
-- child cables stay.
pub use Rattle.convergence.proofs.rounds.Grown.{Grown}
-- Where a component without loop knows its tree, it comes to self identify or to a contention, and
-- stays there.
pub use Rattle.convergence.proofs.rounds.IdentifyOrContend.{grown-of}
-- The nodes in T1 of a set die out: what all weigh falls within each 2d turns, while one is in T1.
pub use Rattle.convergence.proofs.rounds.Shaken.{search-set}
-- After 33 rounds the first 32 draws of two rivals are equal: their component is in contention, and
-- stays so.
pub use Rattle.convergence.proofs.rounds.ThirtyThreeRounds.{contention-after, contention-turn}
-- What no cable leads out of holds the component of each of its nodes. It is so for sets of any
-- kind, but then a
-- member is found only where the goal can be refuted.
pub use Rattle.convergence.proofs.sets.Closure.{in-component}
-- The numbers below n that pass a test: the set of them, and how many there are.
pub use Rattle.convergence.proofs.sets.Gathered.{count, count-found, count-le, count-less, count-most, count-some}
-- Nodes in T0 once resets are done: their timers rise, until they know their tree.
pub use Rattle.convergence.proofs.trees.TreeStart.{IsEarly, Started, done-at, early-at-first, only-start, start-early, start-timer, start-timeout, started}
-- In a component without loop, once timers are at their force time, some node leaves T0 within each
-- d turns: of the
-- nodes in T0 one has at most one cable to the others, as there is no loop, and all its other
-- neighbours ask it.
pub use Rattle.convergence.proofs.trees.TreesTaken.{Silent, TwoSilent, early_there, shown-parent}
-- What turns, holds and acts of a lawful world keep holds along runs.
pub use Rattle.convergence.proofs.turns.AlongRuns.{kept, kept-quiet}
-- Nodes in R1 and T0 in a turn in which no Reset comes: how they come there, and what keeps them
-- there.
pub use Rattle.convergence.proofs.turns.BeforeTree.{Left, StaysInStart, TwoLeft, asks-few, count-cons, every-from, one-left, stays-in-start, two-left, waits-for, was-waiting}
-- The two ends of a cable are there.
pub use Rattle.convergence.proofs.turns.Cables.{joined-of}
-- A turn of a world without a node in R0: no node enters a reset, and each comes from where it was.
pub use Rattle.convergence.proofs.turns.CalmTurns.{Calmly, calmly, done-calm, early-before, heard_by, not-waiting, signals, turn-done, waiting-before}
-- What a node tells over a cable for d turns is shown at the other end. A wire that gives
-- gives all that is under
-- way, so the other end then shows what was told last; and one that doesn't give for d turns has a
-- signal that is due.
pub use Rattle.convergence.proofs.turns.Flush.{Shown, Tells, flush}
-- Facts of phases that several parts use.
pub use Rattle.convergence.proofs.turns.PhaseFacts.{late-start, start-mute}
-- The port that a node has for its parent, as a number and as a test.
pub use Rattle.convergence.proofs.turns.PortFacts.{is-port, port-is-not, same-port}
-- How a node comes to its roles in a turn.
pub use Rattle.convergence.proofs.turns.Roles.{early-parentless, parent-late, parent-was}
-- Five nodes in a line, and five in a star: the middle becomes root without contention. Each milestone
-- on the way is there by the share that it is allowed, and long before.
pub use Rattle.convergence.proofs.worked.FiveNodes.{line, star}
-- How often a clock ticks in so many turns, by what a timer counts.
pub use Rattle.convergence.proofs.turns.SlowTurns.{HasRun, run-on, run-over}
-- A coin that a tick draws, or none where the clock misses the turn.
pub use Rattle.convergence.proofs.turns.Moves.{coin_of}
pub use Rattle.convergence.proofs.turns.TwoTurns.{slack-most, slack-later, Misses, some-slack, not-missed, not-twice}
pub use Rattle.convergence.proofs.turns.BeforeTree.{start-on}

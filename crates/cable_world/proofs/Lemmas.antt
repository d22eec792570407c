-- What crates above use of the proofs of this one, by what it is about.

-- A component has one outcome at most.
pub use Rattle.cable_world.proofs.OneOutcome.{one-outcome, same-set}
-- The attributes that nodes show fit their bits.
pub use Rattle.cable_world.proofs.Fitting.{attrs-fit, shown-fit}
-- What an option has.
pub use Rattle.cable_world.proofs.Options.{none-some, some-and, some-at, some-of, some-same}
-- Facts of phases, each of which holds phase by phase.
pub use Rattle.cable_world.proofs.PhaseFacts.{start-before_tree, start-slack, start-timed}
-- Times that suit a bus.
pub use Rattle.cable_world.proofs.Times.{SuitsCables, suits-cables, in-range-counted, in-range-even, in-range-forced, in-range-suits, powered-in-range}
-- Quiet turns, with holds placed between them: how they are counted, and what they keep.
pub use Rattle.cable_world.proofs.QuietTurns.{after-cabling, holds-are-calls, holds-kept, holds-lawful, holds-signals, no-quiet, one-quiet, plain-quiet, plainly, quiet-comes, quiet-first, quiet-lawful, quiet-reached, quiet-then, quiet-timed, turns-cabling}
-- Quiet turns one after the other, and runs without an act.
pub use Rattle.cable_world.proofs.Rests.{one-hold, one-turn, quiet-run, rests-cabling, rests-come, rests-slack, rests-then, turns-rest}
-- Turns, holds and acts keep a world lawful, and so every world that comes of a power-on world is
-- lawful; and each reached world can run.
pub use Rattle.cable_world.proofs.StaysLawful.{act-lawful, comes-lawful, hold-lawful, power-on-lawful, reached-lawful, reached-runs, turn-lawful}
-- What comes of a world that comes of power-on comes of it too, and so for reached worlds.
pub use Rattle.cable_world.proofs.StaysReached.{act-comes, act-reached, event-comes, hold-comes, hold-reached, power-on-comes, power-on-reached, reached-comes, run-comes, turn-comes, turn-reached, turns-come, turns-reached}
-- What plugging and pulling do to the cables.
pub use Rattle.cable_world.proofs.acts.Cabled.{Cabled, plug-cabled, pull-cabled, with_cable, without_cable}
-- What happens between two turns: to each node, and to each end of a cable.
pub use Rattle.cable_world.proofs.acts.Happenings.{Acting, Entered, Happens, Stayed, acting, each-kept, hold-happens, hold-signals, shown-is}
-- A step of a node that resets the bus: what it does at its node, and what it leaves alone.
pub use Rattle.cable_world.proofs.acts.ResettingSteps.{HasBegun, Resets, Untouched, other_than, resets-disturb, resets-plugged, resets-pulled, same-wire, still-there, untouched}
-- A turn keeps what is so at the two ends of a cable.
pub use Rattle.cable_world.proofs.coupling.CableInTurn.{Pair, after_shown, came, heard_idle, heard_low, heard_no_parent, heard_shown, kept_levels, near_heard, no_reset_before, other_heard, taken, turned-round}
-- What happens between two turns keeps what holds at the two ends of a cable.
pub use Rattle.cable_world.proofs.coupling.CouplingInActs.{ends-in-reset, not-leading}
-- A turn of a world keeps what is so at the two ends of each cable: that their levels agree, and
-- the rest.
pub use Rattle.cable_world.proofs.coupling.CouplingInTurns.{before, hears, ready, side, side-node, side-wire, ticks}
-- Where cables are coupled, each child port leads to a parent port.
pub use Rattle.cable_world.proofs.coupling.RolesFollow.{port-is}
-- A node at its port of a cable, in a turn.
pub use Rattle.cable_world.proofs.coupling.Sides.{Ready, Side, after_signals, arrivals, between-known, contend_empty, departures, early-childless, heard_connected, heard_parent, heard_timing, hearing, hold_fits, kept_or_gone, kept_since, late-roles, leftovers, parent-asks, risen-most, same_wire, ticking, timer_rises, tree_start-known, wire_after}
-- What is under way on a wire, and the level that it brings: of the lists of signals alone.
pub use Rattle.cable_world.proofs.coupling.Streams.{AllAsOldAs-less, AllAsOldAs-zero, has_no_takeback-append, has_reset-append, level_after-low, level_after-reset, not-both, nothing-left, parent-stays, signals-append, signals-older, signals-sent}
-- What a node hears on a port brings the level that the port shows to the last one that it heard.
pub use Rattle.cable_world.proofs.levels.LastHeard.{shown-same, shown_if_there}
-- What a node sends on a port brings the level that it sent last to the one that its phase and the
-- port's role tell.
pub use Rattle.cable_world.proofs.levels.LastSent.{child-if, choose, only, turned}
-- In quiet turns resets die out: after n * d turns no node enters R0, where there are n
-- nodes, and cables delay by at most d turns. A node enters R0 because a neighbour did, at most d
-- turns before. So the nodes that entered in the last turns form a chain, and there are no more of
-- them than nodes.
pub use Rattle.cable_world.proofs.resets.Entries.{Recent, after-delay, after-longest, after-length, comes-from, hold-left, in-turn, in-turn-rises, RisesOrMisses, beat-misses, steady}
-- A node that doesn't enter a reset counts none.
pub use Rattle.cable_world.proofs.resets.ResetCounts.{turn-counts}
-- Steps of single nodes between two turns, and when lists changed.
pub use Rattle.cable_world.proofs.running.Acting.{same-itself}
-- A node's list in a turn: it grows at its end, or is emptied and doesn't grow again. So whether it changed is seen
-- from its length.
pub use Rattle.cable_world.proofs.running.Lists.{no-packets}
-- The tables of a world at power-on.
pub use Rattle.cable_world.proofs.running.Start.{are-counts, as-long, each-node, even-paced, forced-in-range, power-on, rows-are, start-is}
-- A world by its parts: what a lawful one gives to the code, and its turn.
pub use Rattle.cable_world.proofs.running.Whole.{all-young, fault-of, held-is, lawful-now, put-back, put-long, rows-long, sent-long, settled, short-now, turn-is, vectors-related, young-from}
-- The power-on world is well formed, and as no cable is there its wires agree.
pub use Rattle.cable_world.proofs.tables.AtPowerOn.{power-on-apart}
-- An end of a cable: its node, its port and its wire are there.
pub use Rattle.cable_world.proofs.tables.CableEnds.{CableEnd, cable-connected, cable-end, port-there}
-- What acts leave as it is.
pub use Rattle.cable_world.proofs.tables.CountsInActs.{Keeps, act-keeps}
-- What happens between two turns keeps a world well formed.
pub use Rattle.cable_world.proofs.tables.TablesInActs.{act-formed, altered, as_before, has-cable, has-wire, hold-formed, others-alone, plug-formed, pull-formed, recabled, reset-formed, told-formed, was}
-- What one step of a node keeps of a well-formed world, also while a cable is being plugged or
-- pulled.
pub use Rattle.cable_world.proofs.tables.TablesInSteps.{HasEntry, not-replaced, put-lengths, put-other, put-same, replaced, sent-length, step-cables}
-- A turn keeps a world well formed.
pub use Rattle.cable_world.proofs.tables.TablesInTurns.{steady-at, turn-formed}
-- Turns and acts change no node's times, and a clock goes on as it is, in turns alone. So each node keeps time, regular
-- clocks keep their slack, and who can be forced stays so.
pub use Rattle.cable_world.proofs.tables.TimesKept.{GoesOn, act-timed, misses-slowly, turn-timed}
pub use Rattle.cable_world.proofs.tables.Slack.{act-forced, act-slack, even-slack, turn-forced, turn-slack}
-- A turn, node by node and wire by wire.
pub use Rattle.cable_world.proofs.turns.ByNumber.{cabling-after, delay-after, longest-after, node-after, nodes-after, sent-at, turns-counted, wire-after}
-- What is to be known of a node that hears a list of signals.
pub use Rattle.cable_world.proofs.turns.HearsWell.{hear-came, hear-stays}
-- What is to be known of a node's part of a turn: of the signals that it hears, and of the tick
-- after them.
pub use Rattle.cable_world.proofs.turns.NodeFacts.{EntersReset, HearsWell, NoEntry, TicksWell, risen}
-- What a tick does to the facts of the two ends of a cable, field by field, over the rows.
pub use Rattle.cable_world.proofs.turns.TicksWell.{Chosen, chosen, elsewhere, is-child, is-parent}
-- A turn of a node as hearing and ticking, and a turn of a cable as signals that arrive, stay and
-- are sent.
pub use Rattle.cable_world.proofs.turns.TurnParts.{comes, inbox-at, turn-state}
-- From what the nodes of a component show, one by one, to its outcome.
pub use Rattle.cable_world.proofs.worked.Settled.{each-held, no-core, no-loop, said, tree-settled}
-- What the worked rows tell of a world.
pub use Rattle.cable_world.proofs.worked.Summary.{Summary, after_plug, after_pull, at, attrs, node_of, plain_node, story, summary_of}
-- Two nodes on one cable, of which the first draws 0 and the second 1. They contend for the root.
pub use Rattle.cable_world.proofs.worked.TwoNodes.{nodes, start}
-- The tables of a world in a turn, entry by entry.
pub use Rattle.cable_world.proofs.running.AllNodes.{change-at, changes-length, get-some, row-at, row-of, rows-length, step-at, steps-length}
-- Turns in which nothing happens: nothing arrives, every node ticks idly, and nothing is sent.
pub use Rattle.cable_world.proofs.running.Still.{all-taken, idle-less, still-silent}
-- A table that a loop writes anew from its head on: the new entries come first, and then the old ones.
pub use Rattle.cable_world.proofs.running.Mixed.{mixed, mixed-all, mixed-length, mixed-none, mixed-set, take-all}
-- Signals are put onto a node's wires one after the other.
pub use Rattle.cable_world.proofs.running.Sending.{no-sends}
-- What steps and acts leave as it is.
pub use Rattle.cable_world.proofs.running.Touched.{kept-set, kept-then}
-- That a world is lawful has one proof at most.
pub use Rattle.cable_world.proofs.OneProof.{lawful_prop}

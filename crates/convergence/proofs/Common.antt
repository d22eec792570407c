-- Names that proofs of this crate take from its specs and from the crates below, passed on from one
-- place.
use Rattle.std.proofs.Common.{◌≡◌, Bool, true, false, sym, ◌∙◌, true≢false}
pub use Rattle.cabling.proofs.Lemmas.{end_at}
pub use Rattle.cabling.specs.Component.{IsClosed, IsComponent}
pub use Rattle.cabling.specs.Looped.{HasTwo, IsCore}
pub use Rattle.cabling.specs.NodeSet.{Holds}
pub use Rattle.cabling.specs.Wiring.{Wiring, far, ports_of}
pub use Rattle.cabling.specs.declared.cable.End.{End}
pub use Rattle.port_state.specs.Coins.{coin}
unfoldable pub use Rattle.port_state.specs.Entry.{enter}
pub use Rattle.port_state.specs.Heard.{hears_packets, is_resetting}
unfoldable pub use Rattle.port_state.specs.Heard.{on_signal}
pub use Rattle.port_state.specs.Machine.{PortNode, beat, on_beat}
pub use Rattle.port_state.specs.Ports.{every, is_child, is_connected, is_idle, is_parent, is_port, passes, port_is}
pub use Rattle.port_state.specs.Row.{Row}
pub use Rattle.port_state.specs.Tick.{does, next_row, raise_timer, row_of}
unfoldable pub use Rattle.port_state.specs.Tick.{tick}
pub use Rattle.port_state.specs.Contention.{draws_with}
pub use Rattle.port_state.specs.Valid.{FitsPhase, IsValid}
pub use Rattle.port_state.specs.declared.ports.PortView.{PortView}
pub use Rattle.port_state.specs.declared.signal.Level.{Level}
pub use Rattle.port_state.specs.declared.signal.Phase.{Phase}
pub use Rattle.port_state.specs.declared.signal.Signal.{Signal}
pub use Rattle.port_state.specs.declared.states.NodeState.{NodeState}
pub use Rattle.port_state.specs.declared.timing.Timing.{Timing}
pub use Rattle.cable_world.proofs.Lemmas.{Chosen, HearsWell, NoEntry, Side, TicksWell, after-cabling, after-delay, after-length, after_plug, at, before, cable-connected, cabling-after, came, child-if, chosen, comes, delay-after, departures, heard_shown, hearing, hears, holds-kept, holds-signals, late-roles, no-quiet, node-after, not-both, one-quiet, plain_node, quiet-lawful, quiet-then, comes-lawful, risen, side, side-node, side-wire, some-at, some-of, some-same, start-before_tree, steady, ticking, ticks, tree_start-known, turn-lawful, turn-state, wire_after}
pub use Rattle.cable_world.specs.Act.{hold}
pub use Rattle.cable_world.specs.Agreement.{leads_down, level_after, level_sent, level_sent_at, level_shown, shown_or_idle}
pub use Rattle.cable_world.specs.Coupling.{Coupling, is_asking}
pub use Rattle.cable_world.specs.Lawful.{AgesFall, IsLawful}
pub use Rattle.cable_world.specs.Phases.{is_before_tree, is_in_bus_reset, is_shaking}
pub use Rattle.cable_world.specs.Quiet.{HoldSchedule, PlacedHold, holds_after, with_holds}
unfoldable pub use Rattle.cable_world.specs.Quiet.{quiet_after}
pub use Rattle.cable_world.specs.Run.{ComesOfPowerOn}
pub use Rattle.cable_world.specs.Signals.{has_reset, signals_of}
pub use Rattle.cable_world.specs.Turn.{hear_all, inbox, turn_at}
unfoldable pub use Rattle.cable_world.specs.Turn.{turn, turns_after}
pub use Rattle.cable_world.specs.Wire.{age_wire, gives, new_signal}
pub use Rattle.cable_world.specs.World.{CableWorld, wire_of, world_of_nodes}
pub use Rattle.cable_world.specs.declared.wire.Travelling.{Travelling}
pub use Rattle.convergence.specs.Acyclic.{IsAcyclic, IsChildCable}
pub use Rattle.convergence.specs.Cables.{AreJoined}
pub use Rattle.convergence.specs.Coins.{AddsDraw, DrawsAgree, DrewTogether, KnowsCoins, last_coin}
pub use Rattle.convergence.specs.Drawers.{AreMutual, AreUnequal, WinsOver}
pub use Rattle.convergence.specs.Milestones.{AreIdentifying, LoopsAreReported, NoneIn, ResetsAreDone, ResetsAreOver, TreesAreDecided, TreesAreTaken}
pub use Rattle.convergence.specs.Rivals.{AreApart, AreRivals, AsksAgain, Contests, HaveMet, IsAhead, IsContested}
pub use Rattle.convergence.specs.Roots.{IsRoot}
pub use Rattle.convergence.specs.Turns.{turns_to_decision, turns_to_done, turns_to_trees}

-- a test that passes and fails gives anything
pub contrary : {A : Type 0} {b : Bool} → b ≡ true → b ≡ false → A
contrary e f = absurd (true≢false (sym e ∙ f))

-- Names that proofs of this crate take from its specs and from the crates below, passed on from one
-- place.
pub use Rattle.self_id.specs.Group.{node_count}
unfoldable pub use Rattle.self_id.specs.Group.{group}
pub use Rattle.self_id.specs.Node.{Node}
pub use Rattle.self_id.specs.Slots.{slot_count}
pub use Rattle.self_id.specs.declared.node.Attrs.{Attrs}
pub use Rattle.topology_stack.specs.Tree.{Label, Slots, Tree, absent, branch, down, emits, no_more, unplugged, up}
pub use Rattle.cabling.proofs.Lemmas.{In, Loopless, Once, end_at, from_or_not, in_left, in_right, plugged, shared, tree_once, tree_within}
pub use Rattle.cabling.specs.Component.{IsClosed, IsComponent}
pub use Rattle.cabling.specs.Existence.{HasCore}
pub use Rattle.cabling.specs.Labels.{labels}
pub use Rattle.cabling.specs.Looped.{HasTwo, IsCore}
pub use Rattle.cabling.specs.NodeSet.{Holds, IsEmpty}
pub use Rattle.cabling.specs.Sees.{Sees, SeesFrom, numbers, numbers_below}
pub use Rattle.cabling.specs.Wiring.{IsCabling, Wiring, far, ports_of}
pub use Rattle.cabling.specs.declared.cable.End.{End}
pub use Rattle.port_state.proofs.Lemmas.{on_every-port, port_is-changed, sent_on-append, sound-on_signal, valid-raise_timer}
pub use Rattle.port_state.specs.Coins.{coin}
pub use Rattle.port_state.specs.Config.{config_packet}
pub use Rattle.port_state.specs.Entry.{with_port}
unfoldable pub use Rattle.port_state.specs.Entry.{enter}
pub use Rattle.port_state.specs.Group.{own_group, shown_attrs, shown_node}
pub use Rattle.port_state.specs.Heard.{hears, hears_packets, is_heard, is_identifying, is_resetting, with_level, with_packet}
unfoldable pub use Rattle.port_state.specs.Heard.{on_signal}
pub use Rattle.port_state.specs.Machine.{PortNode, node_disturb, node_set_config}
pub use Rattle.port_state.specs.Ports.{asks, change_port, is_connected, is_parent, is_port, is_remaining, is_unnamed, lowest, passes, port_is}
pub use Rattle.port_state.specs.Row.{Row}
pub use Rattle.port_state.specs.SelfIdentify.{granted_row, may_name}
pub use Rattle.port_state.specs.Sends.{packet, sent_on}
pub use Rattle.port_state.specs.Step.{silent_step}
pub use Rattle.port_state.specs.Tick.{does, next_row, raise_timer, row_of}
unfoldable pub use Rattle.port_state.specs.Tick.{tick}
pub use Rattle.port_state.specs.TreeIdentify.{is_decided}
pub use Rattle.port_state.specs.Valid.{FitsRole, IsValid}
pub use Rattle.port_state.specs.declared.ports.PortView.{PortView}
pub use Rattle.port_state.specs.declared.signal.Level.{Level}
pub use Rattle.port_state.specs.declared.signal.Phase.{Phase}
pub use Rattle.port_state.specs.declared.signal.Phase.TheVariants.{ParentShake, Ready, ResetStart, SelfIdent}
pub use Rattle.port_state.specs.declared.signal.Signal.{Signal}
pub use Rattle.port_state.specs.declared.states.NodeState.{NodeState}
pub use Rattle.port_state.specs.declared.timing.Timing.{Timing}
pub use Rattle.cable_world.proofs.Lemmas.{Chosen, Pair, Side, act-comes, acting, after-cabling, after-delay, after-length, after_signals, arrivals, at, attrs, before, cable-connected, cabling-after, child-if, chosen, comes, departures, hear-stays, hearing, in-turn, late-roles, leftovers, no-packets, no-quiet, node-after, not-both, one-quiet, only, port-is, quiet-lawful, quiet-then, comes-lawful, risen, side, side-wire, some-at, some-of, some-same, start-before_tree, ticking, turn-lawful, turn-state, wire_after}
pub use Rattle.cable_world.specs.Act.{Acted, ActLeads, IsAct, act_fault, change_in_set, hold, hold_fault, note_changes}
pub use Rattle.cable_world.specs.Agreement.{leads_down, level_after, level_sent, level_shown, shown_or_idle}
pub use Rattle.cable_world.specs.Coupling.{is_asking}
pub use Rattle.cable_world.specs.Fresh.{IsFresh}
pub use Rattle.cable_world.specs.Lawful.{IsLawful}
pub use Rattle.cable_world.specs.Outcome.{IsSettled, IsTree, AtView, attrs_now, contention, loop, tree}
pub use Rattle.cable_world.specs.Phases.{is_after_hold, is_before_tree, is_in_bus_reset, is_shaking}
pub use Rattle.cable_world.specs.Quiet.{HoldSchedule, PlacedHold, holds_after, with_holds}
unfoldable pub use Rattle.cable_world.specs.Quiet.{quiet_after}
pub use Rattle.cable_world.specs.Run.{ComesOfPowerOn, quiet_turns}
pub use Rattle.cable_world.specs.Signals.{has_reset, signals_of}
pub use Rattle.cable_world.specs.Turn.{hear_all, inbox, turn_at}
unfoldable pub use Rattle.cable_world.specs.Turn.{turn, turns_after}
pub use Rattle.cable_world.specs.Wire.{age_signal, age_wire, gives, new_signal}
pub use Rattle.cable_world.specs.World.{CableWorld, IsPowerOnWorld, wire_of}
pub use Rattle.cable_world.specs.declared.act.Act.{Act}
pub use Rattle.cable_world.specs.declared.act.Act.TheVariants.{Config}
pub use Rattle.cable_world.specs.declared.wire.Travelling.{Travelling}
pub use Rattle.convergence.proofs.Lemmas.{Calmly, contrary, done-after, done-over, heard_by, in-component, is-port, joined-of, no-root-with-loop, parent-was, port-is-not, quiet-acyclic, comes-acyclic, comes-contested, same-port, search-set, signals, turn-acyclic}
pub use Rattle.convergence.specs.Acyclic.{IsAcyclic, IsChildCable}
pub use Rattle.convergence.specs.Milestones.{AreIdentifying, HasContention, ResetsAreDone, ResetsAreOver, ResetsAreOverIn}
pub use Rattle.convergence.specs.Roots.{IsRoot}
pub use Rattle.outcomes.specs.Alike.{Alike}
pub use Rattle.outcomes.specs.Emit.{emit}
pub use Rattle.outcomes.specs.Forced.{IsNamedAlone, WaitsAlone, gap_due, waits_due}
pub use Rattle.outcomes.specs.Identify.{Greets, Identifies, IsIdentifying, Line, Lined, any_child}
pub use Rattle.outcomes.specs.Messages.{MessagesSince, Mode, allows, child_mode, fits, has_done, has_grant, is_done, is_grant, is_message, kept, mode, mode_of, next, parent_mode, quads_in, silent}
pub use Rattle.outcomes.specs.NodeMarks.{IsMarked, is_asked, is_named, is_ready}
pub use Rattle.outcomes.specs.Numbered.{IsAtRest, IsNumbered, IsNumbering, IsSettling, Settles, StandsAt}
pub use Rattle.outcomes.specs.Parents.{LeadsUp, ParentsAre, ParentsBelow}
pub use Rattle.outcomes.specs.RootWalk.{RootWalk, parent_now, parent_of, place_now}
pub use Rattle.outcomes.specs.WalkMarks.{Marked, mark, place}
pub use Rattle.outcomes.specs.WaysUp.{WaysUp}

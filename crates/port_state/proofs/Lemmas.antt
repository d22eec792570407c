-- What crates above use: each step of a valid record is sound, what steps leave as it was, and each
-- step told port by port.
pub use Rattle.port_state.proofs.Sound.{valid-raise_timer, sound-tick, sound-on_signal, sound-enter, sound-disturb, sound-plugged, sound-pulled, valid-set_config, valid-power_on_with, valid-power_on, valid-resetting_gap}
pub use Rattle.port_state.proofs.Stays.{tick-keeps, signal-keeps, enter-keeps, plugged-keeps, pulled-keeps, config-keeps}
pub use Rattle.port_state.proofs.Cables.{tick-cables, signal-cables, enter-cables, plugged-cables, pulled-cables}
pub use Rattle.port_state.proofs.Pointwise.{on_every-port, on_others-port, notices-port, packets-port, map-port, changed-port, sent_on-append}
pub use Rattle.port_state.proofs.CoinPlaces.{coin_at-given}
pub use Rattle.port_state.proofs.Shown.{length-statuses_from, shown-is_node, shown-is_of}
pub use Rattle.port_state.proofs.Shown.{node_count-own_group}
-- Facts of each port, where ports are changed; and the ports from one on, for loops from port to port.
pub use Rattle.port_state.proofs.EachPort.{lowest-passes, port_is-changed, port_is-map, ports-from}
-- A tick is idle exactly where its row changes nothing, and then it raises the timer alone.
pub use Rattle.port_state.proofs.IdleTicks.{missed-idle, after-idle_ticks, idle_ticks-rest}
-- Clocks: regular ones, where they stand some turns later, and in which turns they tick.
pub use Rattle.port_state.proofs.Clocks.{regular-after, regular-on, even-after, even-on, after-clock, clock_on-more, ticks-next, ticks-fewer, ticks-later, ticks-none, still-even}
-- The roles of ports, as the rows of tree identify give and change them.
pub use Rattle.port_state.proofs.Roles.{decided_few, left_is}
-- What goes out on ports: on which, and how much.
pub use Rattle.port_state.proofs.Outgoing.{on-append, few-sends_from}
-- Ranges that are handed out are suitable. The least times of a standard are in its ranges.
pub use Rattle.port_state.proofs.Suitable.{is_ok, ok-suitable}
pub use Rattle.port_state.proofs.StandardLeast.{least_is_within}
-- A clock stored as numbers.
pub use Rattle.port_state.specs.codings.ClockCode.{clock_code}
-- That a record is valid has one proof at most, so a machine can keep it as a fact of its own. No
-- public contract cites this file.
pub use Rattle.port_state.specs.codings.OneProof.{valid_prop}
-- What goes out on the ports of a set: on each port, and as lists.
pub use Rattle.port_state.proofs.PortBits.{has-above}
pub use Rattle.port_state.proofs.OnPorts.{sent_on-ports, sent_on-all_sent, all_sent-append, none-sent, one-sent, every-sent, others-sent}

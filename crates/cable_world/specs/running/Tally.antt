-- Counts of what is under way on the wires of a node.
use Rattle.std.specs.Prelude.{◌≡◌, ◌<◌, ◌≤◌, List, length, take, slice_index}
use Rattle.port_state.specs.Ports.{PortNumber}
use Rattle.cable_world.specs.declared.wire.UnderWay.{UnderWay}
use Rattle.cable_world.specs.declared.tally.Tally.{Tally}
use Rattle.cable_world.specs.running.Rows.{on_port}

-- for each port the number of signals in so many of the oldest entries; where these are none it may be any
abbrev pub IsTally : Tally → List UnderWay → Type 0
IsTally t sent =
    (t.entries ≤ length sent)
    × ((p : PortNumber) → p < 16 → 0 < t.entries → slice_index t.counts p ≡ length (on_port p (take t.entries sent)))

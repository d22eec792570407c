-- Ranges of times, and nodes that are declared with times in them.
use Rattle.std.specs.Prelude.{ℕ, ◌+◌, ◌*◌, ◌<◌, Bool, true, false}
use Rattle.port_state.specs.declared.ranges.TimeRanges.{TimeRanges}
use Rattle.port_state.specs.TimeRanges.{AreWithin, AreSuitable}
use Rattle.port_state.specs.Clock.{IsRegular}
use Rattle.port_state.specs.Machine.{PortNode}
use Rattle.cable_world.specs.World.{IsPowered}
use Rattle.cable_world.specs.Times.{KeepsTime}

-- nodes with times in these ranges can share a bus, and so can one with the least times
pub record AreFitting (d : ℕ) (ranges : TimeRanges) : Type 0 where
  pub suitable : AreSuitable d ranges
  pub least : AreWithin ranges ranges.least

-- each becomes root where it waits to be forced, if what a node tells is seen after so many turns
pub record AreForced (seen : ℕ) (ranges : TimeRanges) : Type 0 where
  pub enough : ranges.most.hold + 127 * seen < ranges.least.hold + ranges.least.force

-- where a clock is slow, the turn may be missed in which it would be seen
abbrev pub spare : Bool → ℕ
spare true = 1
spare false = 0

-- a node that was just powered on, with times in these ranges that suit others in them, and a regular
-- clock with which it takes no longer than they allow
pub record IsFitting (d : ℕ) (ranges : TimeRanges) (x : PortNode) : Type 0 where
  pub powered : IsPowered d ranges.most x.state
  pub within : AreWithin ranges x.state.timing
  pub regular : IsRegular x.clock
  pub clock : KeepsTime ranges.most x.state.timing x.clock

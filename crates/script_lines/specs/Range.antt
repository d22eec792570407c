-- The ranges of the numbers of a command.
use Rattle.std.specs.Prelude.{ℕ, ◌≤◌, ◌||◌, is_some, IsTrue, Option, IfSome}
use Rattle.port_state.specs.declared.ranges.TimeRanges.{TimeRanges}
use Rattle.script_lines.specs.declared.command.Command.{Command}
use Rattle.script_lines.specs.declared.command.Command.TheVariants.{Node, Turn, Hold, Config, CsrLock, Allocate, Release, Delay, Times, Clock}

abbrev pub IsBetween : ℕ → ℕ → ℕ → Type 0
IsBetween least most n = (least ≤ n) × (n ≤ most)

-- the ranges of a node, where the times of nodes are in these ranges
pub record IsNodeInRange
    (times : TimeRanges) (ports speed power gap : ℕ) (hold short long : Option ℕ) (len : ℕ) :
    Type 0 where
  pub some_port : 1 ≤ ports
  pub few_ports : ports ≤ 16
  pub speed_most : speed ≤ 2
  pub power_most : power ≤ 7
  pub gap_most : gap ≤ 63
  pub hold_within : IfSome hold (IsBetween times.least.hold times.most.hold)
  pub short_within : IfSome short (IsBetween times.least.short times.most.short)
  pub long_within : IfSome long (IsBetween times.least.long times.most.long)
  pub few_coins : len ≤ 64

-- the ranges of a configuration packet, of which something is given
pub record IsConfigInRange (root_id gap : Option ℕ) : Type 0 where
  pub some_given : IsTrue (is_some root_id || is_some gap)
  pub root_most : IfSome root_id (λ n. n ≤ 62)
  pub gap_most : IfSome gap (λ n. n ≤ 63)

-- the ranges of a clock, of which the first turn that it misses may be said
pub record IsClockInRange (ppm : ℕ) (first : Option ℕ) : Type 0 where
  pub pace : IsBetween 1 1000000 ppm
  pub first_within : IfSome first (IsBetween 1 2000000)

-- each number of a command is in its range; a port, an offset and a value may be any
abbrev pub IsInRange : TimeRanges → Command → Type 0
IsInRange times
    (Node name ports speed link contender force power gap gap_reset hold short long word len seed packed) =
    IsNodeInRange times ports speed power gap hold short long len
IsInRange times (Turn count) = IsBetween 1 2000000 count
IsInRange times (Hold name port turns) = IsBetween 1 65535 turns
IsInRange times (Config name root_id gap) = IsConfigInRange root_id gap
IsInRange times (CsrLock name offset kind arg value) = kind ≤ 255
IsInRange times (Allocate name channel units) = (channel ≤ 63) × (units ≤ 4915)
IsInRange times (Release name channel units) = (channel ≤ 63) × (units ≤ 4915)
IsInRange times (Delay delay) = IsBetween 1 16 delay
IsInRange times (Times standard nanoseconds) = IsBetween 1 4294967295 nanoseconds
IsInRange times (Clock name ppm first) = IsClockInRange ppm first
IsInRange times command = Unit {0}

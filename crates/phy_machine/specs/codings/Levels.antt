-- Signals that are levels of the lines. No public contract cites this file.
use Rattle.std.specs.Prelude.{Option, Some, None}
use Rattle.port_state.specs.declared.signal.Level.{Level}
use Rattle.port_state.specs.declared.signal.Level.TheVariants as level
use Rattle.port_state.specs.declared.signal.Signal.{Signal}
use Rattle.port_state.specs.declared.signal.Signal.TheVariants as signal

-- the signal that tells a level
abbrev pub signal_of : Level → Signal
signal_of level.Reset = signal.Reset
signal_of level.Idle = signal.Idle
signal_of level.Parent = signal.Parent
signal_of level.Child = signal.Child

-- the level that a signal tells, if it tells one
abbrev pub level_of : Signal → Option Level
level_of signal.Reset = Some level.Reset
level_of signal.Idle = Some level.Idle
level_of signal.Parent = Some level.Parent
level_of signal.Child = Some level.Child
level_of signal.Grant = None
level_of (signal.Packet quad) = None
level_of signal.Done = None

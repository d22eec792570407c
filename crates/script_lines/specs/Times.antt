-- What a script says of the times of its nodes.
use Rattle.std.specs.Prelude.{ℕ, Some, None, Result, Ok, Err}
use Rattle.self_id.specs.declared.standard.Standard.{Standard}
use Rattle.port_state.specs.declared.ranges.TimeRanges.{TimeRanges}
use Rattle.port_state.specs.declared.ranges.Misfit.{Misfit}
use Rattle.port_state.specs.TimeRanges.{profile_ranges, suitable}
use Rattle.port_state.specs.StandardTimes.{standard_ranges}
use Rattle.script_lines.specs.declared.kind.Kind.{Kind}
use Rattle.script_lines.specs.declared.kind.Kind.TheVariants.{Range}
use Rattle.script_lines.specs.declared.times.ScriptTimes.{ScriptTimes}

-- a script that says nothing of them has the profile's
abbrev pub profile_times : ℕ → ScriptTimes
profile_times d = record { ranges = profile_ranges d; nanoseconds = None }

-- ranges that suit, where d ticks are so many nanoseconds
abbrev pub timed : ℕ → Result TimeRanges Misfit → Result ScriptTimes Kind
timed nanoseconds (Ok ranges) = Ok (record { ranges = ranges; nanoseconds = Some nanoseconds })
timed nanoseconds (Err misfit) = Err Range

-- a standard's times, in ticks of which d are so many nanoseconds, or `Range` where they don't suit
abbrev pub standard_times : Standard → ℕ → ℕ → Result ScriptTimes Kind
standard_times standard d nanoseconds =
    timed nanoseconds (suitable d (standard_ranges standard d nanoseconds))

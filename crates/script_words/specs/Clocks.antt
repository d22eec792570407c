-- How slow the lines before a line say that clocks are, and what that makes of the times of nodes.
use Rattle.std.specs.Prelude.{ℕ, ◌==◌, ◌&&◌, not, nat_lt, max, unwrap_or, Bool, List, [], ◌∷◌, ◌++◌, length, drop, codes, Option, Some, None, Result, Ok, Err, if◌then◌else◌}
use Rattle.std.specs.Str.{bytes_eq}
use Rattle.port_state.specs.declared.timing.Timing.{Timing}
use Rattle.port_state.specs.declared.ranges.TimeRanges.{TimeRanges}
use Rattle.script_lines.specs.declared.clock.TooSlow.{TooSlow}
use Rattle.script_lines.specs.Clock.{gap_of, slow_ranges}
use Rattle.script_lines.specs.Number.{number_of}
use Rattle.script_lines.specs.Form.{word_at}
use Rattle.script_words.specs.Before.{words_in, declares}

abbrev pub is_clock_line : List (List ℕ) → Bool
is_clock_line words = bytes_eq (word_at words 0) (codes "clock")

-- ---- the times of a node

-- the number behind a key
abbrev pub time_given : List ℕ → List (List ℕ) → Option ℕ
time_given key [] = None
time_given key (word ∷ []) = None
time_given key (word ∷ value ∷ words) =
    if bytes_eq word key then number_of value else time_given key words

-- it, or the least where no time that a node counts is given
abbrev pub time_or : ℕ → Option ℕ → ℕ
time_or least None = least
time_or least (Some n) = if nat_lt 65535 n then least else n

-- the times that the pairs of a `node` line give
abbrev pub timing_said : TimeRanges → List (List ℕ) → Timing
timing_said ranges pairs = record ranges.least {
  hold = time_or ranges.least.hold (time_given (codes "hold") pairs);
  short = time_or ranges.least.short (time_given (codes "short") pairs);
  long = time_or ranges.least.long (time_given (codes "long") pairs);
}

-- the times of the node with a name
abbrev pub timing_of : TimeRanges → List ℕ → List (List ℕ) → Timing
timing_of ranges name [] = ranges.least
timing_of ranges name (line ∷ lines) =
    if declares name (words_in line) then timing_said ranges (drop 3 (words_in line))
    else timing_of ranges name lines

-- ---- clocks

-- in how many turns the clock ticks between two that it misses; no number stands for 1
abbrev pub gap_said : List (List ℕ) → ℕ
gap_said words = gap_of (max 1 (unwrap_or (number_of (word_at words 2)) 1))

-- what a line says on the clock of a node that has these times
abbrev pub slowed_by : ℕ → TimeRanges → Timing → List (List ℕ) → Result TimeRanges TooSlow
slowed_by d ranges timing words = slow_ranges d ranges timing (gap_said words)

-- the new ranges, or where there are none the old ones
abbrev pub or_same : TimeRanges → Result TimeRanges TooSlow → TimeRanges
or_same ranges (Ok new) = new
or_same ranges (Err reason) = ranges

-- the ranges behind lines, where nodes are declared in some lines
abbrev pub widened_by : ℕ → List (List ℕ) → TimeRanges → List (List ℕ) → TimeRanges
widened_by d nodes ranges [] = ranges
widened_by d nodes ranges (line ∷ lines) =
    if is_clock_line (words_in line) then widened_by d nodes
    (or_same ranges (slowed_by d ranges (timing_of ranges (word_at (words_in line) 1) nodes) (words_in line)))
    lines
    else widened_by d nodes ranges lines

-- what a line says on a clock behind other lines
abbrev pub slowed_behind : ℕ → TimeRanges → List (List ℕ) → List (List ℕ) → Result TimeRanges TooSlow
slowed_behind d times lines words =
    slowed_by d (widened_by d lines times lines) (timing_of times (word_at words 1) lines) words

-- What the lines before a line say.
use Rattle.std.specs.Prelude.{ℕ, ◌==◌, ◌&&◌, ◌||◌, nat_lt, nat_le, is_some, unwrap_or, Bool, List, [], ◌∷◌, ◌++◌, length, drop, slice_index_or, codes, Option, Some, None, Result, Ok, Err, if◌then◌else◌}
use Rattle.std.specs.List.{slice_split}
use Rattle.std.specs.Str.{bytes_eq}
use Rattle.std.specs.Str.Lines.{strip_carriage_return}
use Rattle.self_id.specs.declared.standard.Standard.{Standard}
use Rattle.self_id.specs.declared.standard.Standard.TheVariants.{Ieee1995, Ieee2000}
use Rattle.port_state.specs.declared.timing.Timing.{Timing}
use Rattle.port_state.specs.declared.ranges.TimeRanges.{TimeRanges}
use Rattle.port_state.specs.declared.ranges.Misfit.{Misfit}
use Rattle.port_state.specs.TimeRanges.{profile_ranges, suitable}
use Rattle.port_state.specs.StandardTimes.{standard_ranges}
use Rattle.script_lines.specs.Words.{words_of}
use Rattle.script_lines.specs.Number.{number_of}
use Rattle.script_lines.specs.Form.{word_at}
use Rattle.script_lines.specs.Line.{is_skipped}
use Rattle.script_words.specs.Usage.{usages}
use Rattle.script_words.specs.Fit.{furthest}

-- what stands between the line feeds of a script
abbrev pub feed_lines : List ℕ → List (List ℕ)
feed_lines script = slice_split (λ c. c == 10) script

-- the words of a line; a carriage return at its end doesn't count
abbrev pub words_in : List ℕ → List (List ℕ)
words_in line = words_of (strip_carriage_return line)

-- the lines from the first that isn't skipped
abbrev pub from_first : List (List ℕ) → List (List ℕ)
from_first [] = []
from_first (line ∷ lines) =
    if is_skipped (strip_carriage_return line) then from_first lines else line ∷ lines

-- the words of the first line that isn't skipped, or none
abbrev pub first_words : List (List ℕ) → List (List ℕ)
first_words lines = words_in (slice_index_or (from_first lines) 0 [])

-- ---- the delay

abbrev pub is_delay : List (List ℕ) → Bool
is_delay words = bytes_eq (word_at words 0) (codes "delay")

abbrev pub delay_number : List (List ℕ) → ℕ
delay_number words = unwrap_or (number_of (word_at words 1)) 0

-- the words say a delay, and none is at fault
abbrev pub says_delay : List (List ℕ) → Bool
says_delay words =
    is_delay words && (length words == 2 && (nat_le 1 (delay_number words) && nat_le (delay_number words) 16))

-- the delay that a line says, or the usual one
abbrev pub delay_said : List (List ℕ) → ℕ
delay_said words = if says_delay words then delay_number words else 4

-- the delay of a script: the first line that isn't skipped says it, or it is 4
abbrev pub delay_of : List (List ℕ) → ℕ
delay_of lines = delay_said (first_words lines)

-- ---- the times of nodes

-- the standard that a word names
abbrev pub standard_named : List ℕ → Option Standard
standard_named word =
    if bytes_eq word (codes "1394a") then Some Ieee2000
    else if bytes_eq word (codes "1394-1995") then Some Ieee1995 else None

-- the ranges of a standard, where d ticks are so many nanoseconds, or why they don't suit
abbrev pub ranges_by : ℕ → Option Standard → ℕ → Option (Result TimeRanges Misfit)
ranges_by d None nanoseconds = None
ranges_by d (Some standard) nanoseconds =
    if nat_lt 0 nanoseconds then Some (suitable d (standard_ranges standard d nanoseconds)) else None

abbrev pub is_times : List (List ℕ) → Bool
is_times words = bytes_eq (word_at words 0) (codes "times")

-- those that a line says
abbrev pub times_said : ℕ → List (List ℕ) → Option (Result TimeRanges Misfit)
times_said d words =
    if is_times words && length words == 3 then
    ranges_by d (standard_named (word_at words 1)) (unwrap_or (number_of (word_at words 2)) 0)
    else None

-- every time that a timer counts
abbrev pub any_ranges : TimeRanges
any_ranges = record {
  least = record { hold = 1; force = 1; timeout = 1; short = 1; long = 1 };
  most = record { hold = 65535; force = 65535; timeout = 65535; short = 65535; long = 65535 };
}

-- the ranges that are said, where they suit; else the times may be any
abbrev pub or_any : Option (Result TimeRanges Misfit) → TimeRanges
or_any None = any_ranges
or_any (Some (Ok ranges)) = ranges
or_any (Some (Err misfit)) = any_ranges

-- The words ought to say the delay or times: they begin with that verb, or with none, which may be one of these two
-- misspelt.
abbrev pub is_opening : List (List ℕ) → Bool
is_opening words = is_delay words || (is_times words || furthest 0 words usages == 0)

-- the ranges by a line behind which no other says them: where it ought to and is at fault, the times may be any
abbrev pub ranges_said : ℕ → List (List ℕ) → TimeRanges
ranges_said d words = if is_opening words then or_any (times_said d words) else profile_ranges d

-- the line that may say them: the first that isn't skipped, or the next where that says the delay
abbrev pub times_words : List (List ℕ) → List (List ℕ)
times_words lines =
    if says_delay (first_words lines) then first_words (drop 1 (from_first lines))
    else first_words lines

-- the ranges of the times of a script's nodes
abbrev pub ranges_of : List (List ℕ) → TimeRanges
ranges_of lines = ranges_said (delay_of lines) (times_words lines)

-- ---- nodes

abbrev pub is_node_line : List (List ℕ) → Bool
is_node_line words = bytes_eq (word_at words 0) (codes "node")

-- the words declare this name
abbrev pub declares : List ℕ → List (List ℕ) → Bool
declares name words = is_node_line words && bytes_eq (word_at words 1) name

-- the number of ports of the node with a name
abbrev pub ports_of : List (List ℕ) → List ℕ → Option ℕ
ports_of [] name = None
ports_of (line ∷ lines) name =
    if declares name (words_in line) then number_of (word_at (words_in line) 2)
    else ports_of lines name

-- the names that are declared, a blank before each
abbrev pub names_in : List (List ℕ) → List ℕ
names_in [] = []
names_in (line ∷ lines) =
    if is_node_line (words_in line) then
    codes " " ++ (word_at (words_in line) 1 ++ names_in lines)
    else names_in lines

-- a port's number is one of the node's
abbrev pub is_port : List ℕ → Option ℕ → Bool
is_port word ports = nat_lt (unwrap_or (number_of word) 0) (unwrap_or ports 0)

-- The time stamps of a log, in microseconds: `100.123456:` before an event, and before the kernel's words
-- `[  100.123456]`, `1764623219.123456`, `2026-12-01T21:06:59,123456+00:00`, or `6,812,100123456,-;` of /dev/kmsg.
use Rattle.std.specs.Prelude.{ℕ, ℤ, pos, neg_ℤ, ◌+◌, ◌-◌, ◌*◌, ◌/◌, ◌==◌, ◌&&◌, nat_le, List, [], ◌∷◌, length, take, drop, position, slice_index, Option, Some, None, Result, Ok, Err, if◌then◌else◌, codes}
use Rattle.std.specs.Str.{bytes_eq}
use Rattle.jiff_core.specs.declared.error.Error.{Error}
use Rattle.jiff_fmt.specs.Temporal.{parse_timestamp}
use Rattle.line_words.specs.Digits.{of_digits}
use Rattle.log_line.specs.Words.{behind, or_whole}
use Rattle.log_line.specs.Lists.{is_comma}

-- seconds and microseconds, where both are there
abbrev pub moment : Option ℕ → Option ℕ → Option ℕ
moment None micros = None
moment (Some seconds) None = None
moment (Some seconds) (Some micros) = Some (seconds * 1000000 + micros)

-- the thousandth part
abbrev pub thousandth : Option ℕ → Option ℕ
thousandth None = None
thousandth (Some nanos) = Some (nanos / 1000)

-- 1 to 10 digits, a point and 6 digits, or 9 of which the last three are left out
unfoldable pub moment_of : List ℕ → Option ℕ
moment_of text =
    if nat_le 8 (length text) && (slice_index text (length text - 7) == 46) then
    moment (of_digits 10 10 (take (length text - 7) text))
    (of_digits 10 6 (drop (length text - 6) text))
    else (if nat_le 11 (length text) && (slice_index text (length text - 10) == 46) then
    moment (of_digits 10 10 (take (length text - 10) text))
    (thousandth (of_digits 10 9 (drop (length text - 9) text)))
    else None)

-- what stands before a last colon
abbrev pub before_colon : List ℕ → Option (List ℕ)
before_colon text =
    if bytes_eq (drop (length text - 1) text) (codes ":") then Some (take (length text - 1) text)
    else None

abbrev pub moment_in : Option (List ℕ) → Option ℕ
moment_in None = None
moment_in (Some text) = moment_of text

-- the time of a word, where it is one
abbrev pub time_of : List ℕ → Option ℕ
time_of word = moment_in (before_colon word)

-- `100.123456]` behind a blank, or `[100.123456]`
abbrev pub before_bracket : List ℕ → Option (List ℕ)
before_bracket text =
    if bytes_eq (drop (length text - 1) text) (codes "]") then Some (take (length text - 1) text)
    else None

abbrev pub bracket_time : List ℕ → Option ℕ
bracket_time word = moment_in (before_bracket (or_whole word (behind (codes "[") word)))

-- the time of a word where it is one, and else the one before
abbrev pub or_time : Option ℕ → Option ℕ → Option ℕ
or_time None before = before
or_time (Some time) before = Some time

-- ---- what else stands before the kernel's words

-- microseconds since 1970 began, from nanoseconds
abbrev pub micros_of : Result ℤ Error → Option ℕ
micros_of (Ok (pos nanos)) = Some (nanos / 1000)
micros_of _ = None

-- a date and a time of day with its zone (ISO 8601)
abbrev pub date_time : List ℕ → Option ℕ
date_time word = micros_of (parse_timestamp word)

-- the time before the kernel's words that a word is, where it is one: within brackets, seconds alone, or a date
abbrev pub front_time : List ℕ → Option ℕ
front_time word = or_time (bracket_time word) (or_time (moment_of word) (date_time word))

-- ---- /dev/kmsg

-- what stands behind the first comma
abbrev pub behind_comma : List ℕ → List ℕ
behind_comma text = elim (position is_comma text) [ None ↦ [] | Some at ↦ drop (at + 1) text ]

-- what stands before the first comma
abbrev pub to_comma : List ℕ → List ℕ
to_comma text = elim (position is_comma text) [ None ↦ text | Some at ↦ take at text ]

-- digits of microseconds, 16 at most
abbrev pub micros : List ℕ → Option ℕ
micros text =
    if nat_le (length text) 6 then of_digits 10 6 text
    else moment (of_digits 10 10 (take (length text - 6) text)) (of_digits 10 6 (drop (length text - 6) text))

-- the third field of `6,812,100123456,-;firewire_ohci`
abbrev pub record_time : List ℕ → Option ℕ
record_time word = micros (to_comma (behind_comma (behind_comma word)))

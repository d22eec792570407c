-- What was found and what was wanted where a script is refused, in a sentence.
use Rattle.std.specs.Prelude.{ℕ, ◌+◌, ◌-◌, ◌&&◌, not, nat_lt, length, Bool, is_some, unwrap_or, List, [], ◌∷◌, ◌++◌, take, drop, slice_index_or, codes, Option, Some, None, Result, Ok, Err, if◌then◌else◌}
use Rattle.std.specs.Str.{bytes_eq}
use Rattle.std.specs.Str.Lines.{strip_carriage_return}
use Rattle.port_state.specs.declared.ranges.TimeRanges.{TimeRanges}
use Rattle.port_state.specs.declared.ranges.Misfit.{Misfit}
use Rattle.port_state.specs.declared.ranges.Misfit.TheVariants.{Uncounted, ShortHold, ShortWait, CloseWaits, ShortForce}
use Rattle.script_lines.specs.Words.{words_of}
use Rattle.script_lines.specs.Form.{word_at}
use Rattle.script_lines.specs.declared.kind.Kind.{Kind}
use Rattle.script_lines.specs.declared.kind.Kind.TheVariants.{Word, Number, Name, Twice, Late, TooManyNodes, NoNode, NoPort, InUse, SameNode, NotPlugged, Range, NotSettled, NoManager, NotManager, TooManyTurns, TooManyMaps}
use Rattle.script_lines.specs.declared.kind.ScriptFault.{ScriptFault}
use Rattle.script_words.specs.Column.{field, found}
use Rattle.script_words.specs.Before.{feed_lines, delay_of, times_said, ranges_of, ports_of, names_in, is_port}
use Rattle.script_words.specs.Cables.{End, end_at, far_end}
use Rattle.script_words.specs.Fit.{right}
use Rattle.script_words.specs.Clocks.{is_clock_line, timing_of, gap_said, slowed_behind}
use Rattle.script_lines.specs.declared.clock.TooSlow.{TooSlow}
use Rattle.script_lines.specs.declared.clock.TooSlow.TheVariants.{Often, Times}
use Rattle.script_words.specs.LineSentence.{word_sentence, value_sentence, usage_words, twice_sentence}

-- ---- names and ports

-- the second word, or where that name is declared the fourth
abbrev pub name_place : List (List ℕ) → List (List ℕ) → ℕ
name_place lines words = if is_some (ports_of lines (word_at words 1)) then 3 else 1

-- the names that the lines before declare
abbrev pub names_wanted : List ℕ → List ℕ
names_wanted [] = codes "a name of a node, but no line before declares one."
names_wanted (c ∷ cs) = codes "a name of a node:" ++ ((c ∷ cs) ++ codes ".")

-- whether a line behind declares the name, with so many ports
abbrev pub told_later : Option ℕ → List ℕ
told_later None = codes "\n"
told_later (Some ports) = codes " A later line declares it.\n"

abbrev pub no_node_at : List (List ℕ) → List (List ℕ) → List ℕ → List (List ℕ) → ℕ → List ℕ
no_node_at lines behind line words place =
    found line words place
    ++ (names_wanted (names_in lines) ++ told_later (ports_of behind (word_at words place)))

abbrev pub no_node_sentence : List (List ℕ) → List (List ℕ) → List ℕ → List (List ℕ) → List ℕ
no_node_sentence lines behind line words =
    no_node_at lines behind line words (name_place lines words)

-- the number behind the first name, or where that node has the port the one behind the second
abbrev pub port_place : List (List ℕ) → List (List ℕ) → ℕ
port_place lines words =
    if is_port (word_at words 2) (ports_of lines (word_at words 1)) then 4 else 2

unfoldable pub ports_wanted : List ℕ → ℕ → List ℕ
ports_wanted name ports =
    codes "a port of " ++ (name ++ (field (codes ", which has ") ports ++ codes ", counted from 0.\n"))

abbrev pub no_port_at : List (List ℕ) → List ℕ → List (List ℕ) → ℕ → List ℕ
no_port_at lines line words place =
    let name : List ℕ = word_at words (place - 1) in
    found line words place ++ ports_wanted name (unwrap_or (ports_of lines name) 0)

-- ---- what stands at a place, and a text that says what was wanted

abbrev pub late_wanted : List (List ℕ) → List ℕ
late_wanted words =
    if bytes_eq (word_at words 0) (codes "delay") then codes "it before all other commands.\n"
    else if bytes_eq (word_at words 0) (codes "times") then
    codes "it once, before all commands but delay.\n"
    else if bytes_eq (word_at words 0) (codes "clock") then
    codes "it before all commands but delay, times, node and clock.\n"
    else codes "it before all commands but delay, times and node.\n"

abbrev pub bus_wanted : Kind → List ℕ
bus_wanted TooManyNodes = codes "63 nodes at most.\n"
bus_wanted SameNode = codes "another node than the one at the other end.\n"
bus_wanted NotPlugged = codes "a port with a cable in it.\n"
bus_wanted NotSettled =
    codes "a node in a tree of the last settle or plan, and no plug, pull, reset or config since.\n"
bus_wanted NoManager = codes "a node whose tree has one with link 1 and contender 1.\n"
bus_wanted NotManager =
    codes "the bus manager of its tree, by a line manager behind the last reset.\n"
bus_wanted kind = []

-- what is said of a fault that is of no one word
abbrev pub whole_sentence : Kind → List ℕ
whole_sentence InUse = codes "Found a cable in one of the two ports, wanted both free.\n"
whole_sentence TooManyTurns =
    codes "Found more than 2000000 turns in all, wanted fewer: each settle and plan has its turns, and so has the end.\n"
whole_sentence TooManyMaps = codes "Found a 101st line maps, wanted 100 at most.\n"
whole_sentence kind = []

abbrev pub at_place : List ℕ → List (List ℕ) → ℕ → Kind → List ℕ
at_place line words place kind = found line words place ++ bus_wanted kind

-- ---- a port in use

-- where the cable in a port leads
unfoldable pub free_wanted : End → List ℕ
free_wanted far =
    field (codes "a free port: another, or a pull before. The cable in it leads to port ") far.1
    ++ (codes " of " ++ (far.0 ++ codes ".\n"))

-- the port at a place of a line is in use, or else what another says
abbrev pub in_use_at : List ℕ → List (List ℕ) → ℕ → Option End → List ℕ → List ℕ
in_use_at line words place None other = other
in_use_at line words place (Some far) other = found line words place ++ free_wanted far

abbrev pub in_use_sentence : List (List ℕ) → List ℕ → List (List ℕ) → List ℕ
in_use_sentence lines line words =
    in_use_at line words 2 (far_end (end_at words 1) None lines)
    (in_use_at line words 4 (far_end (end_at words 3) None lines) (whole_sentence InUse))

-- ---- times that don't suit

unfoldable pub too_slow : List ℕ → List ℕ
too_slow standard = codes "Cables are too slow for " ++ (standard ++ codes ".\n")

unfoldable pub too_slow_or_long : List ℕ → List ℕ
too_slow_or_long standard =
    codes "Cables are too slow for " ++ (standard ++ codes ", or ticks too long.\n")

-- words before a number of ticks, and words behind it
unfoldable pub ticks : List ℕ → ℕ → List ℕ → List ℕ
ticks before d behind = field before d ++ (codes " ticks, the way over " ++ behind)

-- the inequality that fails, where d ticks are the delay of a cable
abbrev pub inequality : ℕ → Misfit → List ℕ
inequality d Uncounted = codes "times of at most 65535 ticks, which a node can count. "
inequality d ShortHold = ticks (codes "holds of at least 64 x ") d (codes "64 cables. ")
inequality d ShortWait =
    ticks (codes "short waits of a contention longer than 2 x ") d (codes "a cable and back. ")
inequality d CloseWaits =
    ticks (codes "long waits of a contention longer than short ones by at least 2 x ") d
    (codes "a cable and back. ")
inequality d ShortForce =
    ticks (codes "forced nodes that wait longer than the longest hold less theirs and 127 x ") d
    (codes "127 cables. ")

-- why it does
abbrev pub reason : List ℕ → Misfit → List ℕ
reason standard Uncounted = codes "Ticks are too short.\n"
reason standard ShortHold = too_slow standard
reason standard ShortWait = too_slow_or_long standard
reason standard CloseWaits = too_slow_or_long standard
reason standard ShortForce = too_slow standard

abbrev pub misfit_wanted : ℕ → List ℕ → Misfit → List ℕ
misfit_wanted d standard misfit = inequality d misfit ++ reason standard misfit

-- ---- clocks that are too slow

unfoldable pub often_wanted : ℕ → ℕ → List ℕ
often_wanted long gap =
    field (codes "a clock that ticks at least ") long
    ++ (field (codes " times, the node's long wait, between two turns that it misses. This one ticks ") gap
    ++ codes " times.\n")

abbrev pub slow_reason : List ℕ
slow_reason = codes "With the turns that this clock misses, times take too long.\n"

-- after how many turns what a node tells is seen: where a forced node waits for it, its neighbours' clocks
-- may miss a turn each
abbrev pub slow_delay : ℕ → Misfit → ℕ
slow_delay d ShortForce = d + 1
slow_delay d misfit = d

-- why a clock is too slow that ticks in `gap` turns between two that it misses
abbrev pub slow_wanted : ℕ → ℕ → ℕ → TooSlow → List ℕ
slow_wanted d long gap Often = often_wanted long gap
slow_wanted d long gap (Times misfit) = inequality (slow_delay d misfit) misfit ++ slow_reason

-- each number of a `clock` line is in its range
abbrev pub is_right_clock : List (List ℕ) → Bool
is_right_clock words =
    is_clock_line words && not (nat_lt (right (usage_words words) words) (length (usage_words words)))

-- the clock of a line is too slow behind other lines
abbrev pub clock_sentence : ℕ → TimeRanges → List (List ℕ) → List ℕ → List (List ℕ) → List ℕ
clock_sentence d times lines line words = by (slowed_behind d times lines words)
  where
    by : Result TimeRanges TooSlow → List ℕ
    by (Err reason) =
        found line words 2
        ++ slow_wanted d (timing_of times (word_at words 1) lines).long (gap_said words) reason
    by (Ok ranges) = value_sentence times line (usage_words words) words

-- a number is out of its range, or the times that a line says don't suit
abbrev pub number_sentence : ℕ → TimeRanges → List ℕ → List (List ℕ) → List ℕ
number_sentence d times line words = by (times_said d words)
  where
    by : Option (Result TimeRanges Misfit) → List ℕ
    by (Some (Err misfit)) = found line words 2 ++ misfit_wanted d (word_at words 1) misfit
    by said = value_sentence times line (usage_words words) words

-- one of these, behind other lines
abbrev pub range_sentence : ℕ → TimeRanges → List (List ℕ) → List ℕ → List (List ℕ) → List ℕ
range_sentence d times lines line words =
    if is_right_clock words then clock_sentence d times lines line words
    else number_sentence d times line words

-- ---- all kinds

-- of a line with these words, where these lines are before it and these behind
abbrev pub sentence_of : ℕ → TimeRanges → List (List ℕ) → List (List ℕ) → List ℕ → List (List ℕ) → Kind →
    List ℕ
sentence_of d times lines behind line words Word = word_sentence line
sentence_of d times lines behind line words Number = value_sentence times line (usage_words words) words
sentence_of d times lines behind line words Name = value_sentence times line (usage_words words) words
sentence_of d times lines behind line words Range = range_sentence d times lines line words
sentence_of d times lines behind line words Twice = twice_sentence line words
sentence_of d times lines behind line words Late = found line words 0 ++ late_wanted words
sentence_of d times lines behind line words NoNode = no_node_sentence lines behind line words
sentence_of d times lines behind line words NoPort = no_port_at lines line words (port_place lines words)
sentence_of d times lines behind line words TooManyNodes = at_place line words 0 TooManyNodes
sentence_of d times lines behind line words SameNode = at_place line words 3 SameNode
sentence_of d times lines behind line words NotPlugged = at_place line words 2 NotPlugged
sentence_of d times lines behind line words NotSettled = at_place line words 1 NotSettled
sentence_of d times lines behind line words NoManager = at_place line words 1 NoManager
sentence_of d times lines behind line words NotManager = at_place line words 1 NotManager
sentence_of d times lines behind line words InUse = in_use_sentence lines line words
sentence_of d times lines behind line words TooManyTurns = whole_sentence TooManyTurns
sentence_of d times lines behind line words TooManyMaps = whole_sentence TooManyMaps

-- the sentence of a fault in a script of these lines: the lines before it and behind it, and the line
abbrev pub sentence_in : List (List ℕ) → ScriptFault → List ℕ
sentence_in script fault =
    let lines : List (List ℕ) = take (fault.line - 1) script in
    let behind : List (List ℕ) = drop fault.line script in
    let line : List ℕ = strip_carriage_return (slice_index_or script (fault.line - 1) []) in
    sentence_of (delay_of script) (ranges_of script) lines behind line (words_of line) fault.kind

abbrev pub sentence : List ℕ → ScriptFault → List ℕ
sentence script fault = sentence_in (feed_lines script) fault

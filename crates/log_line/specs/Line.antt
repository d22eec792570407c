-- What a line of the log is, by itself.
use Rattle.std.specs.Prelude.{ℕ, ◌||◌, ◌&&◌, is_some, Bool, true, false, List, [], ◌∷◌, take, Option, Some, None, if◌then◌else◌, codes}
use Rattle.std.specs.Str.{bytes_eq}
use Rattle.log_line.specs.Number.{number_of}
use Rattle.log_line.specs.Words.{words_of, value_of, behind}
use Rattle.log_line.specs.Time.{time_of, or_time}
use Rattle.log_line.specs.Local.{local_of}
use Rattle.log_line.specs.Driver.{driver}
use Rattle.log_line.specs.Listing.{listed}
use Rattle.log_line.specs.Said.{said_behind}
use Rattle.log_line.specs.Lists.{list_of}
use Rattle.log_line.specs.declared.line.Origin.{Origin}
use Rattle.log_line.specs.declared.line.Origin.TheVariants.{Controller, Core}
use Rattle.log_line.specs.declared.line.LogLine.{LogLine}
use Rattle.log_line.specs.declared.line.LogLine.TheVariants.{Other, Lost, Said, Garbled, OfReset}

-- the event that a word names, alone or behind its system's name
abbrev pub event_of : List ℕ → Option Origin
event_of word =
    if bytes_eq word (codes "self_id_complete:")
    || bytes_eq word (codes "firewire_ohci:self_id_complete:") then Some Controller
    else (if bytes_eq word (codes "bus_reset_handle:")
    || bytes_eq word (codes "firewire:bus_reset_handle:") then Some Core else None)

-- the first event that is named, the last time before it where there is one, and the words behind it
abbrev pub named : Option ℕ → List (List ℕ) → Option (Origin × Option ℕ × List (List ℕ))
named time [] = None
named time (word ∷ words) =
    elim (event_of word) [
      | None ↦ named (or_time (time_of word) time) words
      | Some event ↦ Some (event, time, words)
    ]

-- ---- events that are lost

abbrev pub is_loss : List ℕ → Bool
is_loss word = bytes_eq word (codes "EVENTS]") || bytes_eq word (codes "DROPPED]")

abbrev pub has_loss : List (List ℕ) → Bool
has_loss [] = false
has_loss (word ∷ words) = if is_loss word then true else has_loss words

-- `CPU:2 [LOST 12 EVENTS]`, or as `trace-cmd report` prints it `CPU:2 [12 EVENTS DROPPED]`
abbrev pub is_lost : List (List ℕ) → Bool
is_lost [] = false
is_lost (word ∷ words) = is_some (behind (codes "CPU:") word) && has_loss words

-- ---- the fields of an event

abbrev pub number_field : Option (List ℕ × List (List ℕ)) → Option ℕ
number_field None = None
number_field (Some value) = number_of value.0

abbrev pub list_field : Option (List ℕ × List (List ℕ)) → Option (List ℕ)
list_field None = None
list_field (Some value) = list_of value.0 value.1

abbrev pub truth_of : List ℕ → Option Bool
truth_of word =
    if bytes_eq word (codes "true") then Some true
    else (if bytes_eq word (codes "false") then Some false else None)

abbrev pub truth_field : Option (List ℕ × List (List ℕ)) → Option Bool
truth_field None = None
truth_field (Some value) = truth_of value.0

-- a reset of its fields, where each of them is there; the time and the card's own node may not be known
abbrev pub reset_of :
    Origin → (time local card generation : Option ℕ) → Option Bool → Option (List ℕ) → LogLine
reset_of origin time local (Some card) (Some generation) (Some is_error) (Some list) =
    OfReset (record {
      origin = origin;
      time = time;
      card = card;
      generation = generation;
      local = local;
      is_error = is_error;
      list = list;
    })
reset_of origin time local _ _ _ _ = Garbled

-- `self_id_complete: card_index=N is_error=B generation_at_completion=N packet_data=..`, and
-- `bus_reset_handle: card_index=N generation=N self_ids=..`, with other fields among them; of the second also
-- `node_id=0xffcN`, where it is there
abbrev pub event : Origin → Option ℕ → List (List ℕ) → LogLine
event Controller time words =
    reset_of Controller time None (number_field (value_of (codes "card_index=") words))
    (number_field (value_of (codes "generation_at_completion=") words))
    (truth_field (value_of (codes "is_error=") words))
    (list_field (value_of (codes "packet_data=") words))
event Core time words =
    reset_of Core time (local_of (number_field (value_of (codes "node_id=") words)))
    (number_field (value_of (codes "card_index=") words))
    (number_field (value_of (codes "generation=") words)) (Some false)
    (list_field (value_of (codes "self_ids=") words))

-- ---- the lines of a driver

abbrev pub said_or : LogLine → Option ℕ → Option (List ℕ) → LogLine
said_or line time None = line
said_or line time (Some text) = Said time text

-- by the time of a line, and the words behind its driver's name
abbrev pub by_driver : Option (Option ℕ × List (List ℕ)) → LogLine
by_driver None = Other
by_driver (Some d) = said_or (listed d.0 d.1) d.0 (said_behind d.1)

-- ---- all of them

-- a line of words, and the event that is named among them
abbrev pub of_words : List (List ℕ) → Option (Origin × Option ℕ × List (List ℕ)) → LogLine
of_words words None = if is_lost words then Lost else by_driver (driver None words)
of_words words (Some e) = event e.0 e.1 e.2

-- what a line is, by its first 65,536 bytes
unfoldable pub line_of : List ℕ → LogLine
line_of line = of_words (words_of (take 65536 line)) (named None (words_of (take 65536 line)))

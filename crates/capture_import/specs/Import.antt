-- What an input names: the self-ID packets of one bus, or why it names none.
use Rattle.std.specs.Prelude.{◌≡◌, ◌⊎◌, ℕ, ◌-◌, ◌/◌, ◌%◌, ◌==◌, ◌&&◌, not, Bool, true, false, List, [], ◌∷◌, length, take, drop, if◌then◌else◌}
use Rattle.quad_lanes.specs.Pairs.{quads_of}
use Rattle.quad_lanes.specs.Capture.{capture}
use Rattle.capture_import.specs.Words.{begins, words_of, all_spelled, spelled_front}
use Rattle.capture_import.specs.Text.{unmarked, container_of, data_of_text, within_braces, is_one_list}
use Rattle.capture_import.specs.List.{layout_of, NamesList, IsBadList}
use Rattle.capture_import.specs.Line.{refusal_line}
use Rattle.capture_import.specs.declared.taken.Container.{Container}
use Rattle.capture_import.specs.declared.taken.Container.TheVariants.{Bytes, Text}
use Rattle.capture_import.specs.declared.taken.Taken.{Taken}
use Rattle.capture_import.specs.declared.fault.FaultKind.{FaultKind}
use Rattle.capture_import.specs.declared.fault.FaultKind.TheVariants.{BadWord, SecondList, BadLength, Empty}
use Rattle.capture_import.specs.declared.fault.ImportFault.{ImportFault}
use Rattle.capture_import.specs.declared.outcome.Outcome.{Outcome}
use Rattle.capture_import.specs.declared.outcome.Outcome.TheVariants.{Written, Refused}

-- ---- the bytes that an input names

-- the bytes end so, behind whole quadlets
abbrev pub has_behind : List ℕ → List ℕ → Bool
has_behind end bytes =
    (length bytes % 4 == length end) && begins end (drop (length bytes - length end) bytes)

-- bytes without a line feed, or a carriage return and a line feed, behind whole quadlets
abbrev pub without_feed : List ℕ → List ℕ
without_feed bytes =
    if has_behind (10 ∷ []) bytes then take (length bytes - 1) bytes
    else if has_behind (13 ∷ 10 ∷ []) bytes then take (length bytes - 2) bytes
    else bytes

-- the data of a text
abbrev pub data_in : Container → List ℕ → List ℕ
data_in Bytes input = []
data_in (Text form) input = data_of_text form (unmarked input)

-- and its words
abbrev pub words_in : Container → List ℕ → List (List ℕ)
words_in container input = words_of (within_braces (data_in container input))

-- bytes themselves, or else those that the words of a text spell, in their order
abbrev pub bytes_in : Container → List ℕ → List ℕ
bytes_in Bytes input = without_feed input
bytes_in (Text form) input = spelled_front (words_in (Text form) input)

-- each word of a text spells some, and it has one list
abbrev pub is_good_text : Container → List ℕ → Bool
is_good_text container input =
    all_spelled (words_in container input) && is_one_list (data_in container input)

-- the input names these bytes
pub record NamesBytes (container : Container) (input bytes : List ℕ) : Type 0 where
  pub container_is : container ≡ container_of input
  pub good : is_good_text container input ≡ true
  pub bytes_are : bytes ≡ bytes_in container input

-- It names none: a word spells no bytes, or there is a second list. The place is how many quadlets
-- the words before spell.
pub record IsBadText (container : Container) (input : List ℕ) (f : ImportFault) : Type 0 where
  pub container_is : container ≡ container_of input
  pub bad : is_good_text container input ≡ false
  pub kind_is : f.kind ≡ (if all_spelled (words_in container input) then SecondList else BadWord)
  pub place_is : f.quadlet ≡ length (bytes_in container input) / 4

-- ---- their quadlets

-- there are some, and they are whole
abbrev pub are_quadlets : List ℕ → Bool
are_quadlets bytes = not (length bytes == 0) && (length bytes % 4 == 0)

-- there are none, or the bytes end within this one
pub record IsCut (bytes : List ℕ) (f : ImportFault) : Type 0 where
  pub bad : are_quadlets bytes ≡ false
  pub kind_is : f.kind ≡ (if length bytes == 0 then Empty else BadLength)
  pub place_is : f.quadlet ≡ length bytes / 4

-- ---- the whole

-- what the input was taken for, and the list of packets that it names
pub record Names (input : List ℕ) (taken : Taken) (list : List ℕ) : Type 0 where
  pub bytes : List ℕ
  pub names : NamesBytes taken.container input bytes
  pub whole : are_quadlets bytes ≡ true
  pub layout_is : taken.layout ≡ layout_of (quads_of bytes)
  pub list_is : NamesList taken.layout taken.order (quads_of bytes) list

-- the bytes are whole quadlets, which are no list
pub record AreNoList (bytes : List ℕ) (f : ImportFault) : Type 0 where
  pub whole : are_quadlets bytes ≡ true
  pub bad : IsBadList (layout_of (quads_of bytes)) (quads_of bytes) f

-- it names bytes that are no quadlets, or quadlets that are no list
pub record AreBadBytes (input : List ℕ) (f : ImportFault) : Type 0 where
  pub container : Container
  pub bytes : List ℕ
  pub names : NamesBytes container input bytes
  pub bad : IsCut bytes f ⊎ AreNoList bytes f

-- why the input names no list
abbrev pub IsRefused : List ℕ → ImportFault → Type 0
IsRefused input f = ((container : Container) × IsBadText container input f) ⊎ AreBadBytes input f

-- what is written: the capture of the packets that the input names, or the line of its fault
abbrev pub IsImport : List ℕ → List ℕ → Outcome → Type 0
IsImport input text (Written taken) =
    (list : List ℕ) × Names input taken list × (text ≡ capture list)
IsImport input text (Refused f) = IsRefused input f × (text ≡ refusal_line f)

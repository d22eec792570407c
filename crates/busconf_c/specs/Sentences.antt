-- The sentence of a capture's fault, by its record: what was found and what was wanted.
-- Status: 4 no standard.
use Rattle.std.specs.Prelude.{◌≡◌, ℕ, zero, suc, ◌≤◌, ◌*◌, ◌/◌, nat_lt, if◌then◌else◌, Option, Some, None, List, length, slice_index}
use Rattle.quad_lanes.specs.Pairs.{quads_of}
use Rattle.self_id.specs.declared.standard.Standard.{Standard}
use Rattle.view_text.specs.Sentence.{first_at, second_at, length_sentence, inverse_sentence}
use Rattle.c_border.specs.Places.{Tells}
use Rattle.c_records.specs.declared.records.FaultRecord.{FaultRecord}
use Rattle.c_records.specs.Standards.{standard_of}
use Rattle.c_records.specs.Sentences.{IsSentence}

-- the first quadlet of the pair before a pair, if there is one
abbrev pub first_before : List ℕ → ℕ → Option ℕ
first_before quads zero = None
first_before quads (suc k) =
    if nat_lt k (length quads / 2) then Some (slice_index quads (2 * k)) else None

-- the sentence of a fault of a capture's list, for the quadlets of its bytes, two a pair
abbrev pub IsFirstsSentence : Standard → List ℕ → FaultRecord → List ℕ → Type 0
IsFirstsSentence s quads r = IsSentence s (first_at quads r.at) (first_before quads r.at) r

-- the sentence of a fault of a capture's bytes by a standard: that of its list, or on the pair at fault
pub data IsCaptureSentence (s : Standard) (bytes : List ℕ) (r : FaultRecord) (text : List ℕ) : Type 0 where
  of_list : r.kind ≤ 11 → IsFirstsSentence s (quads_of bytes) r text → IsCaptureSentence s bytes r text
  of_length : r.kind ≡ 12 → text ≡ length_sentence → IsCaptureSentence s bytes r text
  of_pair : r.kind ≡ 13 →
      text ≡ inverse_sentence (first_at (quads_of bytes) r.at) (second_at (quads_of bytes) r.at) →
      IsCaptureSentence s bytes r text

-- a sentence by the year's standard is told, or nothing where the year has none
pub data TellsSentence (year : ℕ) (Holds : Standard → List ℕ → Type 0) (before after : List ℕ)
    (needed_before needed status : ℕ) : Type 0 where
  by_standard : (standard : Standard) → standard_of year ≡ Some standard →
      Tells (Holds standard) before after needed_before needed status →
      TellsSentence year Holds before after needed_before needed status
  no_standard : standard_of year ≡ None → after ≡ before → needed ≡ needed_before → status ≡ 4 →
      TellsSentence year Holds before after needed_before needed status

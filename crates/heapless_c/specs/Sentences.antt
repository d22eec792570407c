-- The sentence of a list's fault, by its record, at a place of the caller's.
-- Status: 0 ok, 3 too short, 4 no standard.
use Rattle.std.specs.Prelude.{◌≡◌, ℕ, zero, suc, Option, Some, None, List, slice_get, slice_index_or}
use Rattle.self_id.specs.declared.standard.Standard.{Standard}
use Rattle.c_border.specs.Places.{IsCopied}
use Rattle.c_records.specs.declared.records.FaultRecord.{FaultRecord}
use Rattle.c_records.specs.Standards.{standard_of}
use Rattle.c_records.specs.Sentences.{IsSentence}

-- the quadlet before a place of a list, if there is one
abbrev pub quad_before : List ℕ → ℕ → Option ℕ
quad_before quads zero = None
quad_before quads (suc k) = slice_get quads k

abbrev pub IsListSentence : Standard → List ℕ → FaultRecord → List ℕ → Type 0
IsListSentence s quads r = IsSentence s (slice_index_or quads r.at 0) (quad_before quads r.at) r

-- a sentence by the year's standard is written, or nothing where the year has none
pub data WritesSentence (year : ℕ) (Holds : Standard → List ℕ → Type 0) (before after : List ℕ)
    (needed_before needed status : ℕ) : Type 0 where
  by_standard : (standard : Standard) (text : List ℕ) → standard_of year ≡ Some standard →
      Holds standard text → IsCopied text before after needed status →
      WritesSentence year Holds before after needed_before needed status
  no_standard : standard_of year ≡ None → after ≡ before → needed ≡ needed_before → status ≡ 4 →
      WritesSentence year Holds before after needed_before needed status

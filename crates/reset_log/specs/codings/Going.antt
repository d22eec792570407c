-- Where the reader of a log stands.
use Rattle.std.specs.Prelude.{◌≡◌, ◌⊎◌, ℕ, ◌+◌, ◌<◌, ◌≤◌, ◌^◌, ◌||◌, Bool, false, Option, List, [], ◌++◌, length, take}
use Rattle.std.specs.Io.KnownBytes.{Consumes}
use Rattle.io_edges.specs.Told.{StayTold}
use Rattle.reset_list.specs.declared.form.LogForm.{LogForm}
use Rattle.reset_log.specs.Noted.{Noted, nothing}
use Rattle.reset_log.specs.Notes.{noted}
use Rattle.reset_log.specs.declared.log.LogReader.{LogReader}
use Rattle.reset_log.specs.Shown.{IsLineShown}
use Rattle.reset_log.specs.Log.{parted, AreLinesShown, IsLogShown}
use Rattle.reset_list.specs.Wrote.{Wrote, WroteFront}

-- it was given nothing
pub record IsNew (r : LogReader) : Type 0 where
  pub noted_is : noted r.notes ≡ nothing
  pub line_is : r.line.items ≡ []
  pub number_is : r.number ≡ 1
  pub taken_is : r.taken ≡ 0
  pub bad_is : r.bad ≡ false

-- it was given these bytes, and this is what is shown of their whole lines
pub record HasShown (r : LogReader) (done text : List ℕ) : Type 0 where
  pub shown : AreLinesShown r.form 1 nothing (parted done).lines text r.bad (noted r.notes)
  pub line_is : r.line.items ≡ take 65536 (parted done).open_line
  pub number_is : r.number ≡ length (parted done).lines + 1
  pub taken_is : r.taken ≡ length done

-- the same, and what is shown of them was written
pub record HasWritten {K : Type 0} (written : K → Option (List ℕ)) (faults : K → ℕ)
    (surely_takes : K → ℕ → Type 0) (r : LogReader) (done : List ℕ) (old new : K) : Type 0
  where
    pub text : List ℕ
    pub holds : HasShown r done text
    pub wrote : Wrote written faults surely_takes old new text

-- what is shown of the line that was kept stands behind what was gathered
pub record ShowsLine (old new : LogReader) (was is : List ℕ) : Type 0 where
  pub text : List ℕ
  pub here : Bool
  pub shown :
      IsLineShown old.form old.number (noted old.notes) old.line.items text here (noted new.notes)
  pub gathered : is ≡ was ++ text
  pub bad : new.bad ≡ old.bad || here
  pub form : new.form ≡ old.form
  pub line_is : new.line.items ≡ []
  pub number_is : old.number < 2 ^ 63 → new.number ≡ old.number + 1
  pub taken_is : new.taken ≡ old.taken

-- what is shown of a line that came whole stands behind what was gathered
pub record ShowsWhole (old new : LogReader) (line was is : List ℕ) : Type 0 where
  pub text : List ℕ
  pub here : Bool
  pub shown : IsLineShown old.form old.number (noted old.notes) line text here (noted new.notes)
  pub gathered : is ≡ was ++ text
  pub bad : new.bad ≡ old.bad || here
  pub form : new.form ≡ old.form
  pub line_is : new.line.items ≡ old.line.items
  pub number_is : old.number < 2 ^ 63 → new.number ≡ old.number + 1
  pub taken_is : old.taken + length line < 2 ^ 63 → new.taken ≡ old.taken + length line + 1

-- a line that came whole was counted, with its line feed
pub record CountsWhole (old new : LogReader) (line : List ℕ) : Type 0 where
  pub form : new.form ≡ old.form
  pub notes : noted new.notes ≡ noted old.notes
  pub bad : new.bad ≡ old.bad
  pub line_is : new.line.items ≡ old.line.items
  pub number_is : old.number < 2 ^ 63 → new.number ≡ old.number + 1
  pub taken_is : old.taken + length line < 2 ^ 63 → new.taken ≡ old.taken + length line + 1

-- bytes of a line were kept
pub record KeepsBytes (old new : LogReader) (bytes : List ℕ) : Type 0 where
  pub line_is :
      (line : List ℕ) → old.line.items ≡ take 65536 line →
      new.line.items ≡ take 65536 (line ++ bytes)
  pub form : new.form ≡ old.form
  pub notes : noted new.notes ≡ noted old.notes
  pub number_is : new.number ≡ old.number
  pub taken_is : old.taken + length bytes < 2 ^ 64 → new.taken ≡ old.taken + length bytes
  pub bad : new.bad ≡ old.bad

-- no line feed stands in it
abbrev pub IsOneLine : List ℕ → Type 0
IsOneLine bytes = parted bytes ≡ record { lines = []; open_line = bytes }

-- this is what is shown of the first of these lines
pub record Begun (form : LogForm) (lines : List (List ℕ)) (text : List ℕ) : Type 0 where
  pub first : List (List ℕ)
  pub others : List (List ℕ)
  pub lines_are : lines ≡ first ++ others
  pub bad : Bool
  pub known : Noted
  pub shown : AreLinesShown form 1 nothing first text bad known

-- the front of what is shown of the line that was kept was written
pub record ShowsPart {K : Type 0} (written : K → Option (List ℕ)) (faults : K → ℕ)
    (surely_takes : K → ℕ → Type 0) (r : LogReader) (was is : K) : Type 0
  where
    pub text : List ℕ
    pub here : Bool
    pub known : Noted
    pub shown : IsLineShown r.form r.number (noted r.notes) r.line.items text here known
    pub wrote : WroteFront written faults surely_takes was is text

-- the line that was kept wasn't shown whole
abbrev pub BreaksOff :
    {K : Type 0} → (K → Option (List ℕ)) → (K → ℕ) → (K → ℕ → Type 0) → LogReader → K → K → Type 0
BreaksOff written faults surely_takes r was is =
    (is ≡ was) ⊎ ShowsPart written faults surely_takes r was is

-- a text wasn't written whole
abbrev pub BreaksText :
    {K : Type 0} → (K → Option (List ℕ)) → (K → ℕ) → (K → ℕ → Type 0) → K → K → List ℕ → Type 0
BreaksText written faults surely_takes was is text =
    (is ≡ was) ⊎ WroteFront written faults surely_takes was is text

-- the front of what is shown of the first of these lines was written
pub record Broke {K : Type 0} (written : K → Option (List ℕ)) (faults : K → ℕ)
    (surely_takes : K → ℕ → Type 0) (form : LogForm) (lines : List (List ℕ)) (old new : K) :
    Type 0
  where
    pub text : List ℕ
    pub begun : Begun form lines text
    pub wrote : WroteFront written faults surely_takes old new text

-- these lines were shown
pub record ShowsLines {K : Type 0} (written : K → Option (List ℕ)) (faults : K → ℕ)
    (surely_takes : K → ℕ → Type 0) (r : LogReader) (form : LogForm) (lines : List (List ℕ))
    (old new : K) : Type 0
  where
    pub text : List ℕ
    pub shown : AreLinesShown form 1 nothing lines text r.bad (noted r.notes)
    pub wrote : Wrote written faults surely_takes old new text

-- what is shown of a log of these lines was written
pub record ShowsAll {K : Type 0} (written : K → Option (List ℕ)) (faults : K → ℕ)
    (surely_takes : K → ℕ → Type 0) (form : LogForm) (lines : List (List ℕ)) (bad : Bool)
    (old new : K) : Type 0
  where
    pub text : List ℕ
    pub is_shown : IsLogShown form lines text bad
    pub wrote : Wrote written faults surely_takes old new text

-- what was read so far, and what was written of it; and the counts of faults of the source and of the
-- sink, before and now
pub record ReadsLog {K : Type 0} (written : K → Option (List ℕ)) (faults : K → ℕ)
    (surely_takes : K → ℕ → Type 0) (r : LogReader) (form : LogForm)
    (first now : Option (List ℕ)) (was is : K) (reads reading : ℕ) : Type 0
  where
    pub done : List ℕ
    pub came : Consumes first now done
    pub told : StayTold first now
    pub stands : HasWritten written faults surely_takes r done was is
    pub small : length done ≤ 9223372036854775807
    pub same : r.form ≡ form
    pub later : reads ≤ reading
    pub wrote_later : faults was ≤ faults is

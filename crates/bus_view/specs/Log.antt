-- What is answered to a log and to a dump, which are written as they come.
use Rattle.std.specs.Prelude.{◌≡◌, ◌≢◌, ◌⊎◌, ℕ, ◌≤◌, ◌↔◌, Bool, true, false, List, length, Option, IfSome}
use Rattle.std.specs.Io.KnownBytes.{Appends, Consumes, IsAtEnd}
use Rattle.io_edges.specs.Faults.{Rose}
use Rattle.io_edges.specs.Told.{AppendsStart, IfTold, TookOver}
use Rattle.reset_list.specs.declared.form.LogForm.{LogForm}
use Rattle.reset_log.specs.Noted.{Noted, nothing}
use Rattle.reset_log.specs.Log.{parted, lines_of, IsLogShown, AreLinesShown}
use Rattle.nosy_dump.specs.Dump.{IsDumpShown}
use Rattle.io_edges.specs.Streams.{IsWritten, OfTheAnswer}

-- 1 where something in the input is at fault
abbrev pub status_if : Bool → ℕ
status_if false = 0
status_if true = 1

-- `resets`: what is shown of the log in a form
abbrev pub IsLogView : LogForm → List ℕ → ℕ → List ℕ → Type 0
IsLogView form bytes status text =
    (bad : Bool) × IsLogShown form (lines_of bytes) text bad × (status ≡ status_if bad)

-- `nosy`: what is shown of the dump in a form
abbrev pub IsDumpView : LogForm → List ℕ → ℕ → List ℕ → Type 0
IsDumpView form bytes status text =
    (bad : Bool) × IsDumpShown form bytes text bad × (status ≡ status_if bad)

-- what is shown of the whole lines of a log that goes on
abbrev pub IsLogBegun : LogForm → List ℕ → List ℕ → Type 0
IsLogBegun form bytes text =
    (bad : Bool) × (known : Noted)
    × AreLinesShown form 1 nothing (parted bytes).lines text bad known

-- A call with this status, which writes what `Is` shows of the bytes of a source while they come, and
-- what `IsBegun` shows of them while they go on. It reads them to the end where `Ends` holds. `left` is
-- what a source has left and `written` what a sink holds, where they tell it; each counts its faults; and
-- a sink surely takes so many bytes.
pub record ShowsAsItComes {S K : Type 0}
    (left : S → Option (List ℕ)) (read_faults : S → ℕ) (written : K → Option (List ℕ))
    (write_faults : K → ℕ) (surely_takes : K → ℕ → Type 0) (Ends : Type 0)
    (Is : List ℕ → ℕ → List ℕ → Type 0) (IsBegun : List ℕ → List ℕ → Type 0) (status : ℕ)
    (source read : S) (sink wrote : K) : Type 0
  where
    pub few : status ≤ 6
    pub is_form : status ≢ 2
    -- what is written whole is what is shown of the bytes
    pub answer : IsWritten Is status (left source) (written sink) (written wrote)
    pub end : Ends → IsAtEnd (left read)
    -- when each other status comes
    pub read_fault : status ≡ 3 → Rose (read_faults source) (read_faults read)
    pub write_fault : status ≡ 4 → Rose (write_faults sink) (write_faults wrote)
    pub too_long :
        IfTold (left source) (left read) (λ old new.
        (status ≡ 6) ↔ TookOver 9223372036854775807 old new)
    -- what is written before a read that failed, and a front of the text whatever stopped it
    pub waits :
        status ≡ 3 → (bytes : List ℕ) × (text : List ℕ) × Consumes (left source) (left read) bytes
        × IsBegun bytes text × Appends (written sink) (written wrote) text
    pub part :
        3 ≤ status → IfSome (left source) (λ bytes. (s : ℕ) (text : List ℕ) → Is bytes s text →
        AppendsStart (written sink) (written wrote) text)
    -- the text, which there is, is written, unless another status has its cause
    pub exact :
        IfSome (left source) (λ bytes. OfTheAnswer Is bytes (λ s text. (status ≡ s) ⊎ (3 ≤ status)))
    pub complete :
        ¬ Rose (read_faults source) (read_faults read) →
        ¬ Rose (write_faults sink) (write_faults wrote) →
        IfSome (left source) (λ bytes. length bytes ≤ 9223372036854775807 →
        OfTheAnswer Is bytes (λ s text.
        ((status ≡ s) × Appends (written sink) (written wrote) text) ⊎ (status ≡ 5)))
    -- a sink that surely takes the text has no fault
    pub sure :
        IfSome (left source) (λ bytes. OfTheAnswer Is bytes (λ s text.
        surely_takes sink (length text) → write_faults wrote ≡ write_faults sink))

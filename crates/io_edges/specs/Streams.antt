-- What a top call promises of the stream that it reads and of the one that it writes.
use Rattle.std.specs.Prelude.{◌≡◌, ◌≢◌, ◌⊎◌, ℕ, ◌≤◌, ◌↔◌, List, [], length, Option, IfSome}
use Rattle.std.specs.Io.KnownBytes.{Appends, IsAtEnd}
use Rattle.io_edges.specs.Faults.{Rose}
use Rattle.io_edges.specs.Told.{AppendsStart, IfTold, TookOver}

-- this holds of the answer to the bytes, of its status and its text, and there is one
pub record OfTheAnswer
    (Answers : List ℕ → ℕ → List ℕ → Type 0) (bytes : List ℕ) (P : ℕ → List ℕ → Type 0) : Type 0
  where
    pub holds : (status : ℕ) (text : List ℕ) → Answers bytes status text → P status text
    pub some : (status : ℕ) × (text : List ℕ) × Answers bytes status text

-- What is written whole at status 0 and 1 is such an answer to the bytes that a source had left, where
-- it tells them.
abbrev pub IsWritten :
    (List ℕ → ℕ → List ℕ → Type 0) → ℕ → Option (List ℕ) → Option (List ℕ) → Option (List ℕ) →
    Type 0
IsWritten Is status left old new =
    (status ≡ 0) ⊎ (status ≡ 1) → IfSome left (λ bytes.
    (text : List ℕ) × Is bytes status text × Appends old new text)

-- A call with this status answers by this status and this text: it writes the text, or its first bytes
-- before a fault, or there was no memory. A sink that surely takes the text has no fault.
abbrev pub Writes : {K : Type 0} →
    (K → Option (List ℕ)) → (K → ℕ) → (K → ℕ → Type 0) → ℕ → K → K → ℕ → List ℕ → Type 0
Writes written write_faults surely_takes status sink wrote s text =
    (((status ≡ s) × Appends (written sink) (written wrote) text)
    ⊎ ((status ≡ 4) × AppendsStart (written sink) (written wrote) text) ⊎ (status ≡ 5))
    × (surely_takes sink (length text) → write_faults wrote ≡ write_faults sink)

-- A call with this status, which was asked to answer the bytes of a source, or some that it doesn't
-- read. `left` is what a source has left and `written` what a sink holds, where they tell it; each
-- counts its faults; and a sink surely takes so many bytes.
pub record KeepsStreams {S K : Type 0}
    (left : S → Option (List ℕ)) (read_faults : S → ℕ) (written : K → Option (List ℕ))
    (write_faults : K → ℕ) (surely_takes : K → ℕ → Type 0) (Unread : Type 0)
    (Answers : List ℕ → ℕ → List ℕ → Type 0) (status : ℕ) (source read : S) (sink wrote : K) : Type 0
  where
    pub few : status ≤ 6
    -- what is written whole answers the bytes, of which none is left
    pub answer : IsWritten Answers status (left source) (written sink) (written wrote)
    pub end :
        (status ≡ 0) ⊎ (status ≡ 1) ⊎ (status ≡ 4) → (Unread → ⊥) → IsAtEnd (left read)
    -- when each other status comes
    pub read_fault : status ≡ 3 → Rose (read_faults source) (read_faults read)
    pub write_fault : status ≡ 4 → Rose (write_faults sink) (write_faults wrote)
    pub too_long :
        IfTold (left source) (left read) (λ old new. (status ≡ 6) ↔ TookOver 1048576 old new)
    -- what is left alone, or written in part
    pub unread : (status ≡ 2) ⊎ Unread → read ≡ source
    pub unwritten : 2 ≤ status → status ≢ 4 → wrote ≡ sink
    pub part :
        status ≡ 4 → IfSome (left source) (λ bytes. (s : ℕ) × (text : List ℕ)
        × Answers bytes s text × AppendsStart (written sink) (written wrote) text)
    -- the answer, which there is, is given, unless another status has its cause
    pub exact :
        IfSome (left source) (λ bytes.
        OfTheAnswer Answers bytes (λ s text. (status ≡ s) ⊎ (3 ≤ status)))
    pub complete :
        ¬ Rose (read_faults source) (read_faults read) →
        ¬ Rose (write_faults sink) (write_faults wrote) →
        IfSome (left source) (λ bytes. length bytes ≤ 1048576 → OfTheAnswer Answers bytes (λ s text.
        ((status ≡ s) × Appends (written sink) (written wrote) text) ⊎ (status ≡ 5)))
    -- a sink that surely takes the text has no fault
    pub sure :
        IfSome (left source) (λ bytes. OfTheAnswer Answers bytes (λ s text.
        surely_takes sink (length text) → write_faults wrote ≡ write_faults sink))
    -- where nothing is read, so it is whether or not the source tells its bytes
    pub alone :
        Unread → OfTheAnswer Answers []
        (Writes written write_faults surely_takes status sink wrote)

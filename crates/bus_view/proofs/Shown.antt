-- The status of a log or a dump that was shown, and what is written with it.
use Rattle.std.proofs.Common.{◌≡◌, ◌∙◌, ◌⊎◌, ◌↔◌, inl, inr, ℕ, ◌≤◌, ◌<◌, Bool, true, false, Option, Some, None, Result, Ok, Err, List, length, refl, sym, ap, arith}
use Rattle.std.specs.Prelude.{All, IfSome, IfOk, IsErr, IsErrOf}
use Rattle.std.specs.Io.KnownBytes.{Appends, Consumes, IsAtEnd}
use Rattle.io_edges.specs.Faults.{Rose}
use Rattle.io_edges.specs.Told.{AreBytes, AppendsStart, IfTold, TookOver}
use Rattle.reset_list.specs.declared.stop.LogStop.{LogStop}
use Rattle.reset_list.specs.declared.stop.LogStop.TheVariants.{ReadFault, WriteFault, TooLong, Memory}
use Rattle.reset_list.specs.Answered.{IsExact, IsComplete, IsFront, IsSure}
use Rattle.io_edges.specs.Streams.{IsWritten, OfTheAnswer}
use Rattle.top_call.proofs.Lemmas.{of_answer}
use Rattle.bus_view.specs.Log.{status_if, ShowsAsItComes}
use Rattle.bus_view.specs.codings.Log.{log_status}

-- ---- the status

abbrev Shown : Type 0
Shown = Result Bool LogStop

few : (r : Shown) → log_status r ≤ 6
few (Ok true) = omega arith
few (Ok false) = omega arith
few (Err ReadFault) = omega arith
few (Err WriteFault) = omega arith
few (Err TooLong) = omega arith
few (Err (Memory e)) = omega arith

not_two : (r : Shown) → log_status r ≡ 2 → ⊥
not_two (Ok true) e = omega (arith, e)
not_two (Ok false) e = omega (arith, e)
not_two (Err ReadFault) e = omega (arith, e)
not_two (Err WriteFault) e = omega (arith, e)
not_two (Err TooLong) e = omega (arith, e)
not_two (Err (Memory m)) e = omega (arith, e)

is_read_fault : (r : Shown) → log_status r ≡ 3 → IsErrOf r ReadFault
is_read_fault (Ok true) e = absurd (omega (arith, e))
is_read_fault (Ok false) e = absurd (omega (arith, e))
is_read_fault (Err ReadFault) e = refl
is_read_fault (Err WriteFault) e = absurd (omega (arith, e))
is_read_fault (Err TooLong) e = absurd (omega (arith, e))
is_read_fault (Err (Memory m)) e = absurd (omega (arith, e))

is_write_fault : (r : Shown) → log_status r ≡ 4 → IsErrOf r WriteFault
is_write_fault (Ok true) e = absurd (omega (arith, e))
is_write_fault (Ok false) e = absurd (omega (arith, e))
is_write_fault (Err ReadFault) e = absurd (omega (arith, e))
is_write_fault (Err WriteFault) e = refl
is_write_fault (Err TooLong) e = absurd (omega (arith, e))
is_write_fault (Err (Memory m)) e = absurd (omega (arith, e))

is_long : (r : Shown) → log_status r ≡ 6 → IsErrOf r TooLong
is_long (Ok true) e = absurd (omega (arith, e))
is_long (Ok false) e = absurd (omega (arith, e))
is_long (Err ReadFault) e = absurd (omega (arith, e))
is_long (Err WriteFault) e = absurd (omega (arith, e))
is_long (Err TooLong) e = refl
is_long (Err (Memory m)) e = absurd (omega (arith, e))

is_error : (r : Shown) → 3 ≤ log_status r → IsErr r
is_error (Ok true) e = absurd (omega (arith, e))
is_error (Ok false) e = absurd (omega (arith, e))
is_error (Err stop) e = refl

pub not_bad : (bad : Bool) → status_if bad ≡ 0 → bad ≡ false
not_bad true e = absurd (omega (arith, e))
not_bad false e = refl

-- what is said of an answer is said where the status is 0 or 1
pub answered : (r : Shown) (P : Type 0) → IfOk r (λ bad. P) → (log_status r ≡ 0) ⊎ (log_status r ≡ 1) → P
answered (Ok bad) P ok which = ok
answered (Err ReadFault) P ok (inl e) = absurd (omega (arith, e))
answered (Err ReadFault) P ok (inr e) = absurd (omega (arith, e))
answered (Err WriteFault) P ok (inl e) = absurd (omega (arith, e))
answered (Err WriteFault) P ok (inr e) = absurd (omega (arith, e))
answered (Err TooLong) P ok (inl e) = absurd (omega (arith, e))
answered (Err TooLong) P ok (inr e) = absurd (omega (arith, e))
answered (Err (Memory m)) P ok (inl e) = absurd (omega (arith, e))
answered (Err (Memory m)) P ok (inr e) = absurd (omega (arith, e))

-- where that is said of an answer without fault, the status is 0
pub answered_well : (r : Shown) (P : Type 0) → IfOk r (λ bad. bad ≡ false → P) → log_status r ≡ 0 → P
answered_well (Ok bad) P ok e = ok (not_bad bad e)
answered_well (Err ReadFault) P ok e = absurd (omega (arith, e))
answered_well (Err WriteFault) P ok e = absurd (omega (arith, e))
answered_well (Err TooLong) P ok e = absurd (omega (arith, e))
answered_well (Err (Memory m)) P ok e = absurd (omega (arith, e))

-- ---- what is written

-- what a call showed of the bytes of a source
pub record IsShown {S K : Type 0}
    (left : S → Option (List ℕ)) (read_faults : S → ℕ) (written : K → Option (List ℕ))
    (write_faults : K → ℕ) (surely_takes : K → ℕ → Type 0) (Ends : Type 0)
    (IsText : List ℕ → List ℕ → Bool → Type 0) (IsBegun : List ℕ → List ℕ → Type 0) (r : Shown)
    (source read : S) (sink wrote : K) : Type 0
  where
    pub shown : IfOk r (λ bad. IfSome (left source) (λ bytes. (text : List ℕ) × IsText bytes text bad × Appends (written sink) (written wrote) text))
    pub end : Ends → IsAtEnd (left read)
    pub read_fault : IsErrOf r ReadFault → Rose (read_faults source) (read_faults read)
    pub write_fault : IsErrOf r WriteFault → Rose (write_faults sink) (write_faults wrote)
    pub long : IfTold (left source) (left read) (λ old new. IsErrOf r TooLong ↔ TookOver 9223372036854775807 old new)
    pub waits : IsErrOf r ReadFault → (bytes : List ℕ) × (text : List ℕ) × Consumes (left source) (left read) bytes × IsBegun bytes text × Appends (written sink) (written wrote) text
    pub part : IsErr r → IfSome (left source) (λ bytes. IsFront (IsText bytes) (written sink) (written wrote))
    pub exact : IfSome (left source) (λ bytes. IsExact (IsText bytes) r)
    pub complete :
        (Rose (read_faults source) (read_faults read) → ⊥) → (Rose (write_faults sink) (write_faults wrote) → ⊥) →
        IfSome (left source) (λ bytes. length bytes ≤ 9223372036854775807 → IsComplete (IsText bytes) r (written sink) (written wrote))
    pub sure : IfSome (left source) (λ bytes. IsSure (IsText bytes) (surely_takes sink) (write_faults sink) (write_faults wrote))
    pub some : (bytes : List ℕ) → All (λ b. b < 256) bytes → (text : List ℕ) × (bad : Bool) × IsText bytes text bad
    pub fit : AreBytes (left source)

-- the status and the text of bytes
abbrev With : (List ℕ → List ℕ → Bool → Type 0) → List ℕ → ℕ → List ℕ → Type 0
With IsText bytes status text = (bad : Bool) × IsText bytes text bad × (status ≡ status_if bad)

each : (left : Option (List ℕ)) (P Q : List ℕ → Type 0) → ((bytes : List ℕ) → P bytes → Q bytes) → IfSome left P → IfSome left Q
each None P Q go h = tt
each (Some bytes) P Q go h = go bytes h

module _ (IsText : List ℕ → List ℕ → Bool → Type 0) (old new : Option (List ℕ)) where
  some_answer :
      ((bytes : List ℕ) → All (λ b. b < 256) bytes → (text : List ℕ) × (bad : Bool) × IsText bytes text bad) →
      (bytes : List ℕ) → All (λ b. b < 256) bytes → (s : ℕ) × (text : List ℕ) × With IsText bytes s text
  some_answer some bytes fit = let t = some bytes fit in (status_if t.1, t.0, (t.1, t.2, refl))

  whole : (r : Shown) (left : Option (List ℕ)) →
      IfOk r (λ bad. IfSome left (λ bytes. (text : List ℕ) × IsText bytes text bad × Appends old new text)) →
      IsWritten (With IsText) (log_status r) left old new
  whole (Ok bad) None ok = λ which. tt
  whole (Ok bad) (Some bytes) ok = λ which. (ok.0, (bad, ok.1, refl), ok.2)
  whole (Err stop) left ok = λ which. absurd (answered (Err stop) ⊥ tt which)

  told_long : (r : Shown) (left next : Option (List ℕ)) →
      IfTold left next (λ xs ys. IsErrOf r TooLong ↔ TookOver 9223372036854775807 xs ys) →
      IfTold left next (λ xs ys. (log_status r ≡ 6) ↔ TookOver 9223372036854775807 xs ys)
  told_long r None next h = tt
  told_long r (Some xs) None h = tt
  told_long r (Some xs) (Some ys) h = (λ e. h.0 (is_long r e), λ over. ap log_status (h.1 over))

  exact_one : (r : Shown) (bytes : List ℕ) → IsExact (IsText bytes) r → (s : ℕ) (text : List ℕ) →
      With IsText bytes s text → (log_status r ≡ s) ⊎ (3 ≤ log_status r)
  exact_one (Ok answer) bytes h s text (bad, is, e) = inl (ap status_if (h text bad is) ∙ sym e)
  exact_one (Err ReadFault) bytes h s text x = inr (omega arith)
  exact_one (Err WriteFault) bytes h s text x = inr (omega arith)
  exact_one (Err TooLong) bytes h s text x = inr (omega arith)
  exact_one (Err (Memory m)) bytes h s text x = inr (omega arith)

  complete_one : (r : Shown) (bytes : List ℕ) → IsComplete (IsText bytes) r old new → (s : ℕ) (text : List ℕ) →
      With IsText bytes s text → ((log_status r ≡ s) × Appends old new text) ⊎ (log_status r ≡ 5)
  complete_one r bytes h s text (bad, is, e) = elim (h text bad is) [
    | inl w ↦ inl (ap log_status w.0 ∙ sym e, w.1)
    | inr m ↦ inr (ap log_status m)
  ]

  all_of :
      ((bytes : List ℕ) → All (λ b. b < 256) bytes → (s : ℕ) × (text : List ℕ) × With IsText bytes s text) →
      (left : Option (List ℕ)) (P : ℕ → List ℕ → Type 0) → AreBytes left →
      IfSome left (λ bytes. length bytes ≤ 9223372036854775807 → (s : ℕ) (text : List ℕ) → With IsText bytes s text → P s text) →
      IfSome left (λ bytes. length bytes ≤ 9223372036854775807 → OfTheAnswer (With IsText) bytes P)
  all_of some None P fit h = tt
  all_of some (Some bytes) P fit h = λ short. record { holds = h short; some = some bytes fit }

pub shows :
    {S K : Type 0} (left : S → Option (List ℕ)) (read_faults : S → ℕ) (written : K → Option (List ℕ))
    (write_faults : K → ℕ) (surely_takes : K → ℕ → Type 0) (Ends : Type 0) (IsText : List ℕ → List ℕ → Bool → Type 0)
    (IsBegun : List ℕ → List ℕ → Type 0) (r : Shown) (source read : S) (sink wrote : K) →
    IsShown left read_faults written write_faults surely_takes Ends IsText IsBegun r source read sink wrote →
    ShowsAsItComes left read_faults written write_faults surely_takes Ends (With IsText) IsBegun (log_status r) source read sink wrote
shows left read_faults written write_faults surely_takes Ends IsText IsBegun r source read sink wrote h =
    let old = written sink in
    let new = written wrote in
    let some = some_answer IsText old new h.some in
    record {
      few = few r;
      is_form = not_two r;
      answer = whole IsText old new r (left source) h.shown;
      end = h.end;
      read_fault = λ e. h.read_fault (is_read_fault r e);
      write_fault = λ e. h.write_fault (is_write_fault r e);
      too_long = told_long IsText old new r (left source) (left read) h.long;
      waits = λ e. h.waits (is_read_fault r e);
      part = λ e.
          each (left source) (λ bytes. IsFront (IsText bytes) old new) (λ bytes. (s : ℕ) (text : List ℕ) → With IsText bytes s text → AppendsStart old new text)
          (λ bytes front s text x. front text x.0 x.1) (h.part (is_error r e));
      exact =
          of_answer (With IsText) some (left source) (λ s text. (log_status r ≡ s) ⊎ (3 ≤ log_status r)) h.fit
          (each (left source) (λ bytes. IsExact (IsText bytes) r) (λ bytes. (s : ℕ) (text : List ℕ) → With IsText bytes s text → (log_status r ≡ s) ⊎ (3 ≤ log_status r))
          (exact_one IsText old new r) h.exact);
      complete = λ reads writes.
          all_of IsText old new some (left source) (λ s text. ((log_status r ≡ s) × Appends old new text) ⊎ (log_status r ≡ 5)) h.fit
          (each (left source) (λ bytes. length bytes ≤ 9223372036854775807 → IsComplete (IsText bytes) r old new)
          (λ bytes. length bytes ≤ 9223372036854775807 → (s : ℕ) (text : List ℕ) → With IsText bytes s text → ((log_status r ≡ s) × Appends old new text) ⊎ (log_status r ≡ 5))
          (λ bytes whole short. complete_one IsText old new r bytes (whole short)) (h.complete reads writes));
      sure =
          of_answer (With IsText) some (left source) (λ s text. surely_takes sink (length text) → write_faults wrote ≡ write_faults sink) h.fit
          (each (left source) (λ bytes. IsSure (IsText bytes) (surely_takes sink) (write_faults sink) (write_faults wrote))
          (λ bytes. (s : ℕ) (text : List ℕ) → With IsText bytes s text → surely_takes sink (length text) → write_faults wrote ≡ write_faults sink)
          (λ bytes surely s text x. surely text x.0 x.1) h.sure);
    }

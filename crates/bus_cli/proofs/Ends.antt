-- How the top call ends.
use Rattle.std.proofs.Common.{Result, Ok, Err, ◌≡◌, refl, ℕ, inl, inr, List, Option, Some, None, sym, subst}
use Rattle.std.specs.Prelude.{String, IfOk}
use Rattle.std.specs.declared.alloc.AllocError.{AllocError}
use Rattle.std.specs.Global.{Global}
use Rattle.topology_stack.specs.Tree.{Tree}
use Rattle.capture_reading.specs.declared.fault.CaptureFault.{CaptureFault}
use Rattle.capture_reading.specs.declared.fault.CaptureStop.{CaptureStop}
use Rattle.bus_cli.specs.declared.answer.Answer.{Answer}
use Rattle.bus_cli.specs.declared.form.Form.{Form}
use Rattle.bus_cli.specs.declared.form.Form.TheVariants.{Capture}
use Rattle.bus_cli.specs.declared.form.CaptureForm.{CaptureForm}
use Rattle.bus_cli.specs.declared.form.CaptureForm.TheVariants.{Read, Read95, Maps}
use Rattle.bus_cli.specs.Form.{Asks, standard_of}
use Rattle.capture_reading.specs.Capture.{Spells, CaptureRefused}
use Rattle.capture_reading.specs.Line.{fault_line}
use Rattle.bus_cli.specs.codings.Reading.{IsReadAs, IsTextIn, status_with, text_with}
use Rattle.bus_cli.specs.Answer.{AnswersForm, Answers}
use Rattle.io_edges.specs.Streams.{IsWritten}
use Rattle.top_call.proofs.Lemmas.{of_asked}
use Rattle.bus_cli.proofs.Forms.{one_form}

-- ---- captures

-- a tree is shown in its form
pub shown :
    (form : CaptureForm) (bytes : List ℕ) (t : Tree) (text : List ℕ) → Spells (standard_of form) bytes t →
    IsTextIn form t text → AnswersForm (Capture form) bytes 0 text
shown Read bytes t text spells shows = inl (refl, (t, spells, shows))
shown Read95 bytes t text spells shows = inl (refl, (t, spells, shows))
shown Maps bytes t text spells shows = inl (refl, (t, spells, shows))

-- the line of a fault is the same in each form
pub capture_refused :
    (form : CaptureForm) (bytes : List ℕ) (f : CaptureFault) (text : List ℕ) →
    CaptureRefused (standard_of form) bytes f → text ≡ fault_line f → AnswersForm (Capture form) bytes 1 text
capture_refused Read bytes f text refused is = inr (refl, (f, refused, is))
capture_refused Read95 bytes f text refused is = inr (refl, (f, refused, is))
capture_refused Maps bytes f text refused is = inr (refl, (f, refused, is))

-- what answers a stop answers the reading that stopped
pub stopped :
    (form : CaptureForm) (reading : Result Tree CaptureStop) (stop : CaptureStop) (r : Result Answer AllocError) → reading ≡ Err stop →
    IfOk r (λ a. (form : CaptureForm) (bytes : List ℕ) → IsReadAs (standard_of form) bytes (Err stop) → AnswersForm (Capture form) bytes (status_with a) (text_with a)) →
    IfOk r (λ a. (bytes : List ℕ) → IsReadAs (standard_of form) bytes reading → AnswersForm (Capture form) bytes (status_with a) (text_with a))
stopped form reading stop (Ok a) is h = λ bytes reads. h form bytes (subst (λ (x : Result Tree CaptureStop). IsReadAs (standard_of form) bytes x) is reads)
stopped form reading stop (Err e) is h = tt

-- ---- words

-- where the words ask for a form, the answer is one of it
pub of_form :
    (words : List (String Global)) (form : Form) → Asks words form → (bytes : List ℕ) (s : ℕ) (x : List ℕ) →
    Answers words bytes s x → AnswersForm form bytes s x
of_form words form asks = of_asked (Asks words) AnswersForm form asks (λ other again. one_form words form other asks again)

-- an answer of a form that is known
pub of_known :
    (form known : Form) → form ≡ known → (bytes : List ℕ) (s : ℕ) (text : List ℕ) → AnswersForm known bytes s text →
    AnswersForm form bytes s text
of_known form known e bytes s text is = subst (λ (f : Form). AnswersForm f bytes s text) (sym e) is

-- ---- what was written

-- what is written whole is an answer of the form that the words ask for
pub form_written :
    (words : List (String Global)) (form : Form) → Asks words form → (status : ℕ) (left old new : Option (List ℕ)) →
    IsWritten (Answers words) status left old new → IsWritten (AnswersForm form) status left old new
form_written words form asks status None old new whole = λ which. tt
form_written words form asks status (Some bytes) old new whole = λ which.
    let w = whole which in (w.0, of_form words form asks bytes status w.0 w.1, w.2)

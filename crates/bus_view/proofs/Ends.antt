-- What is written, of the form that the words ask for.
use Rattle.std.proofs.Common.{◌≡◌, inl, inr, ℕ, Option, Some, None, List, sym, subst}
use Rattle.std.specs.Prelude.{String}
use Rattle.std.specs.Global.{Global}
use Rattle.bus_view.specs.Form.{Asks}
use Rattle.bus_view.specs.declared.form.ViewForm.{ViewForm}
use Rattle.io_edges.specs.Streams.{IsWritten}
use Rattle.bus_view.specs.Answer.{IsListView, has_list, has_none, IsView, Answers}
use Rattle.bus_view.specs.Captured.{AnswersCapture, CapturesAreOfReports}
use Rattle.top_call.proofs.Lemmas.{of_asked}
use Rattle.bus_view.proofs.Forms.{one_form}

-- where the words ask for a form, the answer is one of it
pub of_form : (words : List (String Global)) (form : ViewForm) → Asks words form →
    (bytes : List ℕ) (status : ℕ) (text : List ℕ) → Answers words bytes status text →
    IsView form bytes status text
of_form words form asks = of_asked (Asks words) IsView form asks (λ other again. one_form words form other asks again)

-- a view of a form that is known
pub of_known : (form known : ViewForm) → form ≡ known → (bytes : List ℕ) (status : ℕ) (text : List ℕ) →
    IsView known bytes status text → IsView form bytes status text
of_known form known e bytes status text is =
    subst (λ (f : ViewForm). IsView f bytes status text) (sym e) is

-- ---- what was written

-- what is written whole is a view of the form that the words ask for
pub form_written : (words : List (String Global)) (form : ViewForm) → Asks words form → (status : ℕ) (left old new : Option (List ℕ)) →
    IsWritten (Answers words) status left old new → IsWritten (IsView form) status left old new
form_written words form asks status None old new whole = λ which. tt
form_written words form asks status (Some bytes) old new whole = λ which.
    let w = whole which in (w.0, of_form words form asks bytes status w.0 w.1, w.2)

-- ---- a capture of a script's node

capture_answers : CapturesAreOfReports → (name bytes : List ℕ) (status : ℕ) (text : List ℕ) →
    IsListView name bytes status text → AnswersCapture name bytes status text
capture_answers reports name bytes status text (has_list list zero listed is) =
    inl (zero, record { list = list; listed = listed; text_is = is; shown = reports bytes name list listed })
capture_answers reports name bytes status text (has_none fault one listed is) = inr (one, (fault, listed, is))

pub capture_written : CapturesAreOfReports → (name : List ℕ) (status : ℕ) (left old new : Option (List ℕ)) →
    IsWritten (IsListView name) status left old new → IsWritten (AnswersCapture name) status left old new
capture_written reports name status None old new whole = λ which. tt
capture_written reports name status (Some bytes) old new whole = λ which.
    let w = whole which in (w.0, capture_answers reports name bytes status w.0 w.1, w.2)

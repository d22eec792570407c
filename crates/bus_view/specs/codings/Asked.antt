-- The statuses of each form, and the forms with which nothing is read. No public contract cites this
-- file.
use Rattle.std.specs.Prelude.{◌≡◌, ◌⊎◌, ℕ, List, [], Bool, true, false}
use Rattle.std.proofs.Common.{inl, inr}
use Rattle.script_lines.specs.declared.kind.ScriptFault.{ScriptFault}
use Rattle.script_told.specs.Script.{ScriptResult}
use Rattle.bus_view.specs.declared.form.ViewForm.{ViewForm}
use Rattle.bus_view.specs.declared.form.ViewForm.TheVariants.{Capture, Trace, Waves, DotRun, JsonRun, Script, ListOf, Explain, Resets, Nosy, OfItself}
use Rattle.bus_view.specs.Answer.{Reading, spelt, refused, status_of, IsShown, shown, at_fault, has_list, has_none, IsView, has_text, has_fault}
use Rattle.bus_view.specs.Log.{status_if}
use Rattle.bus_view.specs.Form.{IsUnread}

of_reading : (reading : Reading) (status : ℕ) → status ≡ status_of reading → (status ≡ 0) ⊎ (status ≡ 1)
of_reading (spelt t) status is = inl is
of_reading (refused f) status is = inr is

of_log : (bad : Bool) (status : ℕ) → status ≡ status_if bad → (status ≡ 0) ⊎ (status ≡ 1)
of_log true status is = inr is
of_log false status is = inl is

of_shown :
    (Tells : List ℕ → ScriptResult → Type 0) (said : ScriptFault → List ℕ) (bytes : List ℕ)
    (status : ℕ) (text : List ℕ) → IsShown Tells said bytes status text → (status ≡ 0) ⊎ (status ≡ 1)
of_shown Tells said bytes status text (shown e x) = inl e
of_shown Tells said bytes status text (at_fault fault e x t) = inr e

-- each form's status is 0 or 1
pub few_status : (form : ViewForm) (bytes : List ℕ) (status : ℕ) (text : List ℕ) →
    IsView form bytes status text → (status ≡ 0) ⊎ (status ≡ 1)
few_status (Capture view standard) bytes status text shows =
    of_reading shows.reading status shows.status_is
few_status Trace bytes status text is = of_shown _ _ bytes status text is
few_status Waves bytes status text is = of_shown _ _ bytes status text is
few_status DotRun bytes status text is = of_shown _ _ bytes status text is
few_status JsonRun bytes status text is = of_shown _ _ bytes status text is
few_status (Explain form) bytes status text (has_text printed e x t) = inl e
few_status (Explain form) bytes status text (has_fault fault e x t) = inr e
few_status (Script nodes seed) bytes status text is = inl is.0
few_status (ListOf name) bytes status text (has_list list e x t) = inl e
few_status (ListOf name) bytes status text (has_none fault e x t) = inr e
few_status (Resets form) bytes status text (bad, is, e) = of_log bad status e
few_status (Nosy form) bytes status text (bad, is, e) = of_log bad status e
few_status (OfItself about) bytes status text is = inl is.0

-- where nothing is read it is 0
pub unread_status : (form : ViewForm) (bytes : List ℕ) (status : ℕ) (text : List ℕ) →
    IsUnread form → IsView form bytes status text → status ≡ 0
unread_status (Script nodes seed) bytes status text unread is = is.0
unread_status (OfItself about) bytes status text unread is = is.0
unread_status (Capture view standard) bytes status text unread is = absurd unread
unread_status Trace bytes status text unread is = absurd unread
unread_status Waves bytes status text unread is = absurd unread
unread_status DotRun bytes status text unread is = absurd unread
unread_status JsonRun bytes status text unread is = absurd unread
unread_status (Explain form) bytes status text unread is = absurd unread
unread_status (ListOf name) bytes status text unread is = absurd unread
unread_status (Resets form) bytes status text unread is = absurd unread
unread_status (Nosy form) bytes status text unread is = absurd unread

-- and the view of some bytes is that of none
pub unread_alone : (form : ViewForm) (bytes : List ℕ) (status : ℕ) (text : List ℕ) →
    IsUnread form → IsView form bytes status text → IsView form [] status text
unread_alone (Script nodes seed) bytes status text unread is = is
unread_alone (OfItself about) bytes status text unread is = is
unread_alone (Capture view standard) bytes status text unread is = absurd unread
unread_alone Trace bytes status text unread is = absurd unread
unread_alone Waves bytes status text unread is = absurd unread
unread_alone DotRun bytes status text unread is = absurd unread
unread_alone JsonRun bytes status text unread is = absurd unread
unread_alone (Explain form) bytes status text unread is = absurd unread
unread_alone (ListOf name) bytes status text unread is = absurd unread
unread_alone (Resets form) bytes status text unread is = absurd unread
unread_alone (Nosy form) bytes status text unread is = absurd unread

-- The statuses of each form, and the forms with which nothing is read. No public contract cites this
-- file.
use Rattle.std.specs.Prelude.{◌≡◌, ◌⊎◌, ℕ, List, []}
use Rattle.std.proofs.Common.{inl, inr}
use Rattle.bus_cli.specs.declared.form.Form.{Form}
use Rattle.bus_cli.specs.declared.form.Form.TheVariants.{Capture, Rom, Run, Advice, Make, OfItself}
use Rattle.bus_cli.specs.declared.form.CaptureForm.TheVariants.{Read, Read95, Maps}
use Rattle.bus_cli.specs.Answer.{AnswersForm}
use Rattle.bus_cli.specs.Form.{IsUnread}

few : (Valid Refused : Type 0) (status : ℕ) → ((status ≡ 0) × Valid) ⊎ ((status ≡ 1) × Refused) →
    (status ≡ 0) ⊎ (status ≡ 1)
few Valid Refused status (inl is) = inl is.0
few Valid Refused status (inr is) = inr is.0

-- each form's status is 0 or 1
pub few_status : (form : Form) (bytes : List ℕ) (status : ℕ) (text : List ℕ) →
    AnswersForm form bytes status text → (status ≡ 0) ⊎ (status ≡ 1)
few_status (Capture Read) bytes status text is = few _ _ status is
few_status (Capture Read95) bytes status text is = few _ _ status is
few_status (Capture Maps) bytes status text is = few _ _ status is
few_status Rom bytes status text is = few _ _ status is
few_status Run bytes status text is = few _ _ status is
few_status Advice bytes status text is = few _ _ status is
few_status (Make nodes seed) bytes status text is = inl is.0
few_status (OfItself about) bytes status text is = inl is.0

-- where nothing is read it is 0
pub unread_status : (form : Form) (bytes : List ℕ) (status : ℕ) (text : List ℕ) →
    IsUnread form → AnswersForm form bytes status text → status ≡ 0
unread_status (Make nodes seed) bytes status text unread is = is.0
unread_status (OfItself about) bytes status text unread is = is.0
unread_status (Capture form) bytes status text unread is = absurd unread
unread_status Rom bytes status text unread is = absurd unread
unread_status Run bytes status text unread is = absurd unread
unread_status Advice bytes status text unread is = absurd unread

-- and the answer to some bytes is that to none
pub unread_alone : (form : Form) (bytes : List ℕ) (status : ℕ) (text : List ℕ) →
    IsUnread form → AnswersForm form bytes status text → AnswersForm form [] status text
unread_alone (Make nodes seed) bytes status text unread is = is
unread_alone (OfItself about) bytes status text unread is = is
unread_alone (Capture form) bytes status text unread is = absurd unread
unread_alone Rom bytes status text unread is = absurd unread
unread_alone Run bytes status text unread is = absurd unread
unread_alone Advice bytes status text unread is = absurd unread

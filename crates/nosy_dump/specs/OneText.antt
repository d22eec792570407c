-- Each dump has one text, and one answer to whether anything is at fault.
use Rattle.std.specs.Prelude.{◌≡◌, ◌<◌, ℕ, All, Bool, List}
use Rattle.reset_list.specs.declared.form.LogForm.{LogForm}
use Rattle.nosy_dump.specs.Dump.{IsDumpShown}

abbrev pub NoDumpHasTwoTexts : Type 0
NoDumpHasTwoTexts =
    (form : LogForm) (dump a b : List ℕ) (c d : Bool) →
    IsDumpShown form dump a c → IsDumpShown form dump b d → (a ≡ b) × (c ≡ d)

abbrev pub EachDumpHasAText : Type 0
EachDumpHasAText =
    (form : LogForm) (dump : List ℕ) → All (λ b. b < 256) dump →
    (text : List ℕ) × (bad : Bool) × IsDumpShown form dump text bad

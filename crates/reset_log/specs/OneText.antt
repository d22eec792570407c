-- Each log has one text, and one answer to whether a line of it is at fault.
use Rattle.std.specs.Prelude.{◌≡◌, ℕ, Bool, List}
use Rattle.reset_list.specs.declared.form.LogForm.{LogForm}
use Rattle.reset_log.specs.Log.{lines_of, IsLogShown}

abbrev pub NoLogHasTwoTexts : Type 0
NoLogHasTwoTexts =
    (form : LogForm) (log a b : List ℕ) (c d : Bool) →
    IsLogShown form (lines_of log) a c → IsLogShown form (lines_of log) b d →
    (a ≡ b) × (c ≡ d)

abbrev pub EachLogHasAText : Type 0
EachLogHasAText =
    (form : LogForm) (log : List ℕ) →
    (text : List ℕ) × (bad : Bool) × IsLogShown form (lines_of log) text bad

-- A log has one answer to each question for a reset of it.
use Rattle.std.specs.Prelude.{◌≡◌, ℕ, List}
use Rattle.log_import.specs.Import.{IsResetImport}
use Rattle.log_import.specs.declared.outcome.Outcome.{Outcome}

-- for the reset with a number no log has two texts or two outcomes
abbrev pub NoLogHasTwoAnswers : Type 0
NoLogHasTwoAnswers =
    (k : ℕ) (log a b : List ℕ) (c d : Outcome) → IsResetImport k log a c → IsResetImport k log b d →
    (a ≡ b) × (c ≡ d)

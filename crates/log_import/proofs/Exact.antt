-- What is answered and written of a log that was told is the one answer that it has.
use Rattle.std.proofs.Common.{◌≡◌, ℕ, Option, Some, None, List, subst}
use Rattle.std.specs.Prelude.{IfSome}
use Rattle.std.specs.Io.KnownBytes.{Appends}
use Rattle.io_edges.specs.Told.{AreLeft}
use Rattle.log_import.specs.declared.outcome.Outcome.{Outcome}
use Rattle.log_import.specs.Import.{IsResetImport}
use Rattle.log_import.specs.OneReset.{NoLogHasTwoAnswers}

pub exact : NoLogHasTwoAnswers → (k : ℕ) (left old new : Option (List ℕ)) (log text : List ℕ) (outcome : Outcome) →
    AreLeft left log → IsResetImport k log text outcome → Appends old new text →
    IfSome left (λ told. (own : List ℕ) (right : Outcome) → IsResetImport k told own right →
    (outcome ≡ right) × Appends old new own)
exact law k None old new log text outcome are is wrote = tt
exact law k (Some told) old new log text outcome are is wrote = λ own right own_is.
    let same = law k told text own outcome right (subst (λ (l : List ℕ). IsResetImport k l text outcome) are is) own_is in
    (same.1, subst (λ (t : List ℕ). Appends old new t) same.0 wrote)

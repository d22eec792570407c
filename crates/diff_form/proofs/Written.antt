-- What two captures come to that were told.
use Rattle.std.proofs.Common.{◌≡◌, ◌↔◌, ℕ, Option, Some, None, Result, Ok, Err, List, length, ap, subst}
use Rattle.std.specs.Prelude.{IfSome}
use Rattle.io_edges.specs.Told.{IfTold, TookOver}
use Rattle.io_edges.specs.declared.stop.ReadStop.{ReadStop}
use Rattle.io_edges.specs.declared.stop.ReadStop.TheVariants.{TooLong as ReadTooLong}
use Rattle.self_id.specs.declared.standard.Standard.{Standard}
use Rattle.topology_stack.specs.Tree.{Tree}
use Rattle.capture_reading.specs.declared.fault.CaptureFault.{CaptureFault}
use Rattle.capture_reading.specs.OneReading.{NoCaptureHasTwoTrees, NoCaptureHasATreeAndAFault, NoCaptureHasTwoFaults}
use Rattle.diff_form.specs.declared.form.DiffForm.{DiffForm}
use Rattle.diff_form.specs.Form.{standard_of}
use Rattle.diff_form.specs.declared.outcome.Outcome.{Outcome}
use Rattle.diff_form.specs.declared.outcome.Side.{Side}
use Rattle.diff_form.specs.declared.stop.DiffStop.{DiffStop}
use Rattle.diff_form.specs.declared.stop.DiffStop.TheVariants.{WriteFault, TooLong}
use Rattle.diff_form.specs.Difference.{IsReading, IsOfReadings, IsDifference}

-- what is known of captures
pub record OneReading : Type 0 where
  pub tree : NoCaptureHasTwoTrees
  pub apart : NoCaptureHasATreeAndAFault
  pub fault : NoCaptureHasTwoFaults

-- a capture has one reading
same_reading : OneReading → (standard : Standard) (bytes : List ℕ) (r s : Result Tree CaptureFault) →
    IsReading standard bytes r → IsReading standard bytes s → r ≡ s
same_reading one standard bytes (Ok t) (Ok u) a b = ap (λ (x : Tree). Ok x) (one.tree standard bytes t u a b)
same_reading one standard bytes (Ok t) (Err g) a b = absurd (one.apart standard bytes t g a b)
same_reading one standard bytes (Err f) (Ok u) a b = absurd (one.apart standard bytes u f b a)
same_reading one standard bytes (Err f) (Err g) a b = ap (λ (x : CaptureFault). Err x) (one.fault standard bytes f g a b)

-- also where it was told
pub told_reading : OneReading → (standard : Standard) (read bytes : List ℕ) (r s : Result Tree CaptureFault) →
    read ≡ bytes → IsReading standard read r → IsReading standard bytes s → r ≡ s
told_reading one standard read bytes r s same a b =
    same_reading one standard bytes r s (subst (λ (x : List ℕ). IsReading standard x r) same a) b

of_readings : (form : DiffForm) (old_name new_name text : List ℕ) (outcome : Outcome) (r s p q : Result Tree CaptureFault) →
    r ≡ p → s ≡ q → IsOfReadings form old_name new_name r s text outcome →
    IsOfReadings form old_name new_name p q text outcome
of_readings form old_name new_name text outcome r s p q a b is =
    subst (λ (x : Result Tree CaptureFault). IsOfReadings form old_name new_name p x text outcome) b
    (subst (λ (x : Result Tree CaptureFault). IsOfReadings form old_name new_name x s text outcome) a is)

-- so what is written is of the readings that they have
pub exactly : OneReading → (form : DiffForm) (before after : Option (List ℕ)) →
    (old_name new_name old new text : List ℕ) (outcome : Outcome) (Wrote : List ℕ → Type 0) →
    IfSome before (λ told. old ≡ told) → IfSome after (λ told. new ≡ told) →
    IsDifference form old_name new_name old new text outcome → Wrote text →
    IfSome before (λ a. IfSome after (λ b. (r s : Result Tree CaptureFault) →
    IsReading (standard_of form) a r → IsReading (standard_of form) b s → (x : List ℕ)
    × IsOfReadings form old_name new_name r s x outcome × Wrote x))
exactly one form None after old_name new_name old new text outcome Wrote p q is wrote = tt
exactly one form (Some a) None old_name new_name old new text outcome Wrote p q is wrote = tt
exactly one form (Some a) (Some b) old_name new_name old new text outcome Wrote p q is wrote = λ r s x y. (
  text,
  of_readings form old_name new_name text outcome is.old_read is.new_read r s
      (told_reading one (standard_of form) old a is.old_read r p is.old_is x)
      (told_reading one (standard_of form) new b is.new_read s q is.new_is y) is.written,
  wrote,
)

-- a sink that surely takes each text has no fault
pub surely : (form : DiffForm) (before after : Option (List ℕ)) →
    (old_name new_name old new text : List ℕ) (outcome : Outcome) (takes : ℕ → Type 0) (same : Type 0) →
    IfSome before (λ told. old ≡ told) → IfSome after (λ told. new ≡ told) →
    IsDifference form old_name new_name old new text outcome → (takes (length text) → same) →
    IfSome before (λ a. IfSome after (λ b. ((x : List ℕ) (o : Outcome) →
    IsDifference form old_name new_name a b x o → takes (length x)) → same))
surely form None after old_name new_name old new text outcome takes same p q is go = tt
surely form (Some a) None old_name new_name old new text outcome takes same p q is go = tt
surely form (Some a) (Some b) old_name new_name old new text outcome takes same p q is go = λ sure.
    go (sure text outcome
    (subst (λ (y : List ℕ). IsDifference form old_name new_name a y text outcome) q
    (subst (λ (x : List ℕ). IsDifference form old_name new_name x new text outcome) p is)))

-- a fault of the sink comes only where no source was too long
pub not_too_long : {V : Type 0} (v : V) (side : Side) (before after : Option (List ℕ)) →
    IfTold before after (λ old new. (◌≡◌ {A = Result V ReadStop} (Ok v) (Err ReadTooLong)) ↔ TookOver 1048576 old new) →
    IfTold before after (λ old new. (◌≡◌ {A = Result Outcome DiffStop} (Err WriteFault) (Err (TooLong side))) ↔ TookOver 1048576 old new)
not_too_long v side None after h = tt
not_too_long v side (Some a) None h = tt
not_too_long v side (Some a) (Some b) h = ((λ e. absurd cc), (λ over. let e = h.1 over in absurd cc))

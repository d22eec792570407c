-- What is told of a script that has a text, or none.
use Rattle.std.proofs.Common.{◌≡◌, ℕ, List, Vec, Global, Result, Ok, Err, sym, subst, refl}
use Rattle.std.specs.Prelude.{◌≢◌, IfOk, IfErr}
use Rattle.c_border.specs.Places.{IsCopied, Tells, some, no_memory as no_memory_for_it}
use Rattle.script_lines.specs.declared.kind.ScriptFault.{ScriptFault}
use Rattle.script_lines.specs.declared.kind.ScriptStop.{ScriptStop}
use Rattle.script_lines.specs.declared.kind.ScriptStop.TheVariants.{Fault, Memory}
use Rattle.script_told.specs.Script.{ScriptResult}
use Rattle.script_run.specs.Answered.{StopsWith, IsOnlyFault}
use Rattle.script_c.specs.declared.record.ScriptFaultRecord.{ScriptFaultRecord}
use Rattle.script_c.specs.Faults.{IsStopped}
use Rattle.script_c.specs.Answers.{TellsScript, TellsThis, told, refused, no_memory}

pub stopped :
    (HasText : List ℕ → Type 0) (Tells : ScriptResult → Type 0) (stop : ScriptStop)
    (place : List ℕ) (needed : ℕ) (before after : ScriptFaultRecord) (status : ℕ) →
    StopsWith Tells stop → IsStopped stop before after status →
    TellsScript HasText (λ f. Tells (Err f)) place place needed needed before after status
stopped HasText Tells (Fault f) place needed before after status has (is, one) = refused f has is refl refl one
stopped HasText Tells (Memory none) place needed before after status has (is, two) = no_memory refl refl is two

pub told_some :
    (P HasText : List ℕ → Type 0) (HasFault : ScriptFault → Type 0) (before after : List ℕ) (needed_before needed : ℕ) (fault : ScriptFaultRecord) (status : ℕ) →
    ((text : List ℕ) → P text → HasText text) → Tells P before after needed_before needed status →
    TellsScript HasText HasFault before after needed_before needed fault fault status
told_some P HasText HasFault before after needed_before needed fault status has (some list is tells) = told list (has list is) tells refl
told_some P HasText HasFault before after needed_before needed fault status has (no_memory_for_it a n s) = no_memory a n refl s

-- ---- what was read of a script is told

module _ (read : Result (Vec ℕ Global) ScriptStop) (before after : List ℕ) (needed_before needed : ℕ)
    (fault_before fault : ScriptFaultRecord) (status : ℕ)
    (copied : IfOk read (λ text. IsCopied text.items before after needed status × (fault ≡ fault_before)))
    (stops : IfErr read (λ stop. IsStopped stop fault_before fault status × (after ≡ before) × (needed ≡ needed_before))) where
  pub tells_read :
      (HasText : List ℕ → Type 0) (Fails : ScriptResult → Type 0) → IfOk read (λ text. HasText text.items) →
      IfErr read (StopsWith Fails) →
      TellsScript HasText (λ f. Fails (Err f)) before after needed_before needed fault_before fault status
  tells_read HasText Fails = by read copied stops
    where
      by : (r : Result (Vec ℕ Global) ScriptStop) →
          IfOk r (λ text. IsCopied text.items before after needed status × (fault ≡ fault_before)) →
          IfErr r (λ stop. IsStopped stop fault_before fault status × (after ≡ before) × (needed ≡ needed_before)) →
          IfOk r (λ text. HasText text.items) → IfErr r (StopsWith Fails) →
          TellsScript HasText (λ f. Fails (Err f)) before after needed_before needed fault_before fault status
      by (Ok text) c s has fails = told text.items has c.0 c.1
      by (Err (Fault f)) c s has fails = refused f fails s.0.0 s.1 s.2 s.0.1
      by (Err (Memory none)) c s has fails = no_memory s.1 s.2 s.0.0 s.0.1

  pub tells_only :
      (Says : ScriptResult → Type 0) →
      IfOk read (λ text. (told : ScriptResult) → Says told → told ≡ Ok text.items) →
      IfErr read (λ stop. (told : ScriptResult) → Says told → IsOnlyFault told stop) →
      (this : ScriptResult) → Says this → status ≢ 2 →
      TellsThis this before after needed_before needed fault_before fault status
  tells_only Says only exact this is there = by read copied stops only exact
    where
      This : ScriptResult → Type 0
      This r = TellsThis r before after needed_before needed fault_before fault status

      by : (r : Result (Vec ℕ Global) ScriptStop) →
          IfOk r (λ text. IsCopied text.items before after needed status × (fault ≡ fault_before)) →
          IfErr r (λ stop. IsStopped stop fault_before fault status × (after ≡ before) × (needed ≡ needed_before)) →
          IfOk r (λ text. (told : ScriptResult) → Says told → told ≡ Ok text.items) →
          IfErr r (λ stop. (told : ScriptResult) → Says told → IsOnlyFault told stop) → This this
      by (Ok text) c s one other = subst This (sym (one this is)) c
      by (Err (Fault f)) c s one other = subst This (sym (other this is)) (s.0.0, s.1, s.2, s.0.1)
      by (Err (Memory none)) c s one other = absurd (there s.0.1)

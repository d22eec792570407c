-- What a capture and a file of names come to that were told.
use Rattle.std.proofs.Common.{◌≡◌, ◌∙◌, ◌↔◌, ℕ, Option, Some, None, Result, Ok, Err, List, length, sym, subst, ap, refl}
use Rattle.std.specs.Prelude.{IfSome}
use Rattle.io_edges.specs.Told.{IfTold, TookOver}
use Rattle.io_edges.specs.declared.stop.ReadStop.{ReadStop}
use Rattle.io_edges.specs.declared.stop.ReadStop.TheVariants.{TooLong as ReadTooLong}
use Rattle.self_id.specs.declared.standard.Standard.{Standard}
use Rattle.topology_stack.specs.Tree.{Tree}
use Rattle.capture_reading.specs.declared.fault.CaptureFault.{CaptureFault}
use Rattle.diff_form.specs.Difference.{IsReading}
use Rattle.diff_form.proofs.Lemmas.{OneReading, told_reading}
use Rattle.view_text.specs.GraphDot.{IsTreeDot}
use Rattle.named_form.specs.declared.form.NamedForm.{NamedForm}
use Rattle.named_form.specs.declared.form.NamedForm.TheVariants as form
use Rattle.named_form.specs.declared.fault.NamesFault.{NamesFault}
use Rattle.named_form.specs.declared.outcome.Outcome.{Outcome}
use Rattle.named_form.specs.declared.outcome.Outcome.TheVariants.{Shown}
use Rattle.named_form.specs.declared.outcome.Input.{Input}
use Rattle.named_form.specs.declared.stop.NamedStop.{NamedStop}
use Rattle.named_form.specs.declared.stop.NamedStop.TheVariants.{WriteFault, TooLong}
use Rattle.named_form.specs.Form.{standard_of}
use Rattle.named_form.specs.File.{lines_of, fault_of}
use Rattle.named_form.specs.Mentions.{with_names}
use Rattle.named_form.specs.Shown.{IsByFault, IsShown}
use Rattle.named_form.specs.NamedDot.{NamedGraphsAreDot}

-- what is written is of the reading that the capture has
pub exactly : OneReading → (form : NamedForm) (before after : Option (List ℕ)) →
    (file bytes text : List ℕ) (outcome : Outcome) (Wrote : List ℕ → Type 0) →
    IfSome before (λ told. file ≡ told) → IfSome after (λ told. bytes ≡ told) →
    IsShown form file bytes text outcome → Wrote text →
    IfSome before (λ a. IfSome after (λ b. (r : Result Tree CaptureFault) →
    IsReading (standard_of form) b r → (x : List ℕ)
    × IsByFault form a r (fault_of a) x outcome × Wrote x))
exactly one form None after file bytes text outcome Wrote p q is wrote = tt
exactly one form (Some a) None file bytes text outcome Wrote p q is wrote = tt
exactly one form (Some a) (Some b) file bytes text outcome Wrote p q is wrote = λ r x. (
  text,
  subst (λ (s : Result Tree CaptureFault). IsByFault form a s (fault_of a) text outcome)
      (told_reading one (standard_of form) bytes b is.reading r q is.reading_is x)
      (subst (λ (y : List ℕ). IsByFault form y is.reading (fault_of y) text outcome) p is.written),
  wrote,
)

-- a sink that surely takes each text has no fault
pub surely : (form : NamedForm) (before after : Option (List ℕ)) →
    (file bytes text : List ℕ) (outcome : Outcome) (takes : ℕ → Type 0) (same : Type 0) →
    IfSome before (λ told. file ≡ told) → IfSome after (λ told. bytes ≡ told) →
    IsShown form file bytes text outcome → (takes (length text) → same) →
    IfSome before (λ a. IfSome after (λ b. ((x : List ℕ) (o : Outcome) →
    IsShown form a b x o → takes (length x)) → same))
surely form None after file bytes text outcome takes same p q is go = tt
surely form (Some a) None file bytes text outcome takes same p q is go = tt
surely form (Some a) (Some b) file bytes text outcome takes same p q is go = λ sure.
    go (sure text outcome
    (subst (λ (y : List ℕ). IsShown form a y text outcome) q
    (subst (λ (x : List ℕ). IsShown form x bytes text outcome) p is)))

-- a fault of the sink comes only if no source was too long
pub not_too_long : {V : Type 0} (v : V) (input : Input) (before after : Option (List ℕ)) →
    IfTold before after (λ old new. (◌≡◌ {A = Result V ReadStop} (Ok v) (Err ReadTooLong)) ↔ TookOver 1048576 old new) →
    IfTold before after (λ old new. (◌≡◌ {A = Result Outcome NamedStop} (Err WriteFault) (Err (TooLong input))) ↔ TookOver 1048576 old new)
not_too_long v input None after h = tt
not_too_long v input (Some a) None h = tt
not_too_long v input (Some a) (Some b) h = ((λ e. absurd cc), (λ over. let e = h.1 over in absurd cc))

-- a graph that is shown is one in DOT of the tree that the capture spells
pub as_dot : NamedGraphsAreDot → (asked : NamedForm) (standard : Standard) (file bytes text : List ℕ) (outcome : Outcome) →
    asked ≡ form.Dot standard → outcome ≡ Shown → IsShown asked file bytes text outcome →
    (t : Tree) × IsReading standard bytes (Ok t) × IsTreeDot t text
as_dot law asked standard file bytes text outcome e o is =
    let dot : IsShown (form.Dot standard) file bytes text outcome = subst (λ (x : NamedForm). IsShown x file bytes text outcome) e is in
    by (fault_of file) dot.reading refl dot.reading_is dot.written
  where
    by : (fault : Option NamesFault) (r : Result Tree CaptureFault) → fault_of file ≡ fault → IsReading standard bytes r →
        IsByFault (form.Dot standard) file r fault text outcome → (t : Tree) × IsReading standard bytes (Ok t) × IsTreeDot t text
    by (Some fault) r p q w = let no_fault = w.1 in absurd cc
    by None (Err f) p q w = let read = w.1 in absurd cc
    by None (Ok t) p q w = (t, q, subst (IsTreeDot t) (sym (w.0.text_is ∙ ap (with_names (lines_of file)) w.0.is)) (law file t p))

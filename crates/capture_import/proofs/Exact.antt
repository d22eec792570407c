-- An input has one outcome and one text.
use Rattle.std.proofs.Common.{◌≡◌, ◌∙◌, ℕ, Option, Some, None, List, ap, sym, subst}
use Rattle.std.specs.Prelude.{IfSome}
use Rattle.std.specs.Io.KnownBytes.{Appends}
use Rattle.io_edges.specs.Told.{AreLeft}
use Rattle.quad_lanes.specs.Capture.{capture}
use Rattle.capture_import.specs.declared.fault.ImportFault.{ImportFault}
use Rattle.capture_import.specs.declared.outcome.Outcome.{Outcome}
use Rattle.capture_import.specs.declared.outcome.Outcome.TheVariants.{Written, Refused}
use Rattle.capture_import.specs.declared.taken.Container.{Container}
use Rattle.capture_import.specs.declared.taken.Layout.{Layout}
use Rattle.capture_import.specs.declared.taken.Order.{Order}
use Rattle.capture_import.specs.declared.taken.Taken.{Taken}
use Rattle.capture_import.specs.Import.{IsImport}
use Rattle.capture_import.specs.Line.{refusal_line}
use Rattle.capture_import.specs.OneImport.{NoInputNamesTwoLists, NoInputIsNamedAndRefused, NoInputHasTwoFaults}

pub record OneImport : Type 0 where
  pub list : NoInputNamesTwoLists
  pub apart : NoInputIsNamedAndRefused
  pub fault : NoInputHasTwoFaults

made : Container → Layout → Order → Taken
made container layout order = record { container = container; layout = layout; order = order }

same_taken : (t u : Taken) → t.container ≡ u.container → t.layout ≡ u.layout → t.order ≡ u.order → t ≡ u
unfolding made
same_taken t u c l o =
    ap (λ (x : Container). made x t.layout t.order) c ∙ ap (λ (x : Layout). made u.container x t.order) l
    ∙ ap (λ (x : Order). made u.container u.layout x) o

one_outcome : OneImport → (input a b : List ℕ) (x y : Outcome) → IsImport input a x → IsImport input b y →
    (x ≡ y) × (b ≡ a)
one_outcome law input a b (Written t) (Written u) (l, names, e) (k, too, f) =
    let same = law.list input t u l k names too in
    (ap (λ (v : Taken). Written v) (same_taken t u same.0 same.1 same.2), f ∙ ap capture (sym same.3) ∙ sym e)
one_outcome law input a b (Written t) (Refused f) (l, names, e) bad = absurd (law.apart input t l f names bad.0)
one_outcome law input a b (Refused f) (Written t) bad (l, names, e) = absurd (law.apart input t l f names bad.0)
one_outcome law input a b (Refused f) (Refused g) x y =
    let same = law.fault input f g x.0 y.0 in
    (ap (λ (h : ImportFault). Refused h) same, y.1 ∙ ap refusal_line (sym same) ∙ sym x.1)

-- what is answered and written of an input is right
pub exact : OneImport → (left old new : Option (List ℕ)) (input text : List ℕ) (outcome : Outcome) → AreLeft left input →
    IsImport input text outcome → Appends old new text →
    IfSome left (λ told. (own : List ℕ) (right : Outcome) → IsImport told own right →
    (outcome ≡ right) × Appends old new own)
exact law None old new input text outcome are is wrote = tt
exact law (Some told) old new input text outcome are is wrote = λ own right own_is.
    let same = one_outcome law told text own outcome right (subst (λ (i : List ℕ). IsImport i text outcome) are is) own_is in
    (same.0, subst (λ (t : List ℕ). Appends old new t) (sym same.1) wrote)

-- where no outcome is answered nothing is said of one
pub no_answer : (left : Option (List ℕ)) →
    IfSome left (λ told. (own : List ℕ) (right : Outcome) → IsImport told own right → Unit {0})
no_answer None = tt
no_answer (Some told) = λ own right is. tt

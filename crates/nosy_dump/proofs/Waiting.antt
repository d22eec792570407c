-- The reset that waits is shown.
use Rattle.std.proofs.Common.{◌≡◌, ◌∙◌, ℕ, ◌-◌, ◌+◌, ◌<◌, ◌≤◌, ◌^◌, Bool, ◌||◌, Option, Some, None, List, [], ◌∷◌, ◌++◌, length, refl, sym, ap, subst, append_assoc, length-append, arith}
use Rattle.reset_list.specs.declared.form.LogForm.{LogForm}
use Rattle.reset_list.specs.InOrder.{AreTold}
use Rattle.reset_list.proofs.Lemmas.{one_more}
use Rattle.nosy_dump.specs.declared.record.DumpReset.{DumpReset}
use Rattle.nosy_dump.specs.Resets.{resets_from}
use Rattle.nosy_dump.specs.Noted.{Noted, nothing}
use Rattle.nosy_dump.specs.Dump.{IsResetShown}
use Rattle.nosy_dump.specs.codings.Going.{AreResets, ShowsBy}

-- all resets of records were shown
pub record AllShown (form : LogForm) (records : List (List ℕ)) (text : List ℕ) (m : ℕ)
    (u : Noted) (c : Bool) : Type 0
  where
    pub told : AreTold (IsResetShown form) 1 nothing (resets_from 0 records) text c u
    pub number_is : m ≡ length (resets_from 0 records) + 1

-- no more were shown than there are
pub few_ended : (records : List (List ℕ)) (ended : List DumpReset) (pending : Option DumpReset) →
    AreResets records ended pending → length ended ≤ length (resets_from 0 records)
few_ended records ended None are = rw are.1 (omega arith)
few_ended records ended (Some p) are =
    let size : length (resets_from 0 records) ≡ length ended + 1 =
    ap (λ (l : List DumpReset). length l) are ∙ length-append ended (p ∷ []) in
    omega (arith, size)

told_again : (form : LogForm) (xs ys : List DumpReset) (text : List ℕ) (b c : Bool) (t u : Noted) →
    ys ≡ xs → c ≡ b → u ≡ t → AreTold (IsResetShown form) 1 nothing xs text b t →
    AreTold (IsResetShown form) 1 nothing ys text c u
told_again form xs ys text b c t u e f g told =
    subst (λ (l : List DumpReset). AreTold (IsResetShown form) 1 nothing l text c u) (sym e)
    (subst (λ (x : Bool). AreTold (IsResetShown form) 1 nothing xs text x u) (sym f)
    (subst (λ (x : Noted). AreTold (IsResetShown form) 1 nothing xs text b x) (sym g) told))

pub all_shown : (form : LogForm) (records : List (List ℕ)) (ended : List DumpReset)
    (pending : Option DumpReset) (text was is : List ℕ) (n m : ℕ) (x u : Noted) (b c : Bool) →
    AreResets records ended pending →
    AreTold (IsResetShown form) 1 nothing ended (text ++ was) b x → n ≡ length ended + 1 →
    n < 2 ^ 64 - 1 →
    ShowsBy form pending n x b m u c was is → AllShown form records (text ++ is) m u c
all_shown form records ended None text was is n m x u b c are told number few shows = record {
  told =
      subst (λ (l : List ℕ). AreTold (IsResetShown form) 1 nothing (resets_from 0 records)
      (text ++ l) c u) (sym shows.gathered)
      (told_again form ended (resets_from 0 records) (text ++ was) b c x u (are.0 ∙ sym are.1)
      shows.bad shows.notes told);
  number_is = shows.number_is ∙ number ∙ ap (λ (l : List DumpReset). length l + 1)
      (are.1 ∙ sym are.0);
}
all_shown form records ended (Some p) text was is n m x u b c are told number few shows =
    let place : n ≡ 1 + length ended = omega (arith, number) in
    let shown : IsResetShown form (1 + length ended) x p shows.text shows.here u =
    subst (λ (k : ℕ). IsResetShown form k x p shows.text shows.here u) place shows.shown in
    let more = one_more (IsResetShown form) 1 nothing x u ended p (text ++ was) shows.text b
    shows.here told shown in
    let size : length (resets_from 0 records) ≡ length ended + 1 =
    ap (λ (l : List DumpReset). length l) are ∙ length-append ended (p ∷ []) in
    let joined : (text ++ was) ++ shows.text ≡ text ++ is = append_assoc text was shows.text
    ∙ ap (λ (l : List ℕ). text ++ l) (sym shows.gathered) in
    record {
      told =
          subst (λ (l : List ℕ). AreTold (IsResetShown form) 1 nothing (resets_from 0 records) l c
          u) joined
          (told_again form (ended ++ p ∷ []) (resets_from 0 records) ((text ++ was) ++ shows.text)
          (b || shows.here) c u u are shows.bad refl more);
      number_is = omega (arith, shows.number_is few, number, size);
    }

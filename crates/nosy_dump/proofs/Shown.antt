-- A reset was shown, and bytes of a record were kept.
use Rattle.std.proofs.Common.{◌≡◌, ◌∙◌, ℕ, ◌-◌, ◌+◌, ◌<◌, ◌^◌, Bool, true, ◌||◌, is_none, Option, List, [], ◌∷◌, ◌++◌, length, refl, sym, ap, subst, arith}
use Rattle.std.specs.Prelude.{◌==◌}
use Rattle.std.proofs.lemmas.Bool.Decides.{nat_tests}
use Rattle.self_id.specs.declared.standard.Standard.{Standard}
use Rattle.log_line.specs.declared.line.Origin.TheVariants.{Core}
use Rattle.reset_list.specs.Shown.{IsListShown, IsListShort}
use Rattle.reset_list.specs.declared.form.LogForm.{LogForm}
use Rattle.reset_list.specs.declared.form.LogForm.TheVariants.{Text, Short}
use Rattle.topology_stack.specs.Tree.{Tree}
use Rattle.nosy_dump.specs.declared.record.DumpReset.{DumpReset}
use Rattle.nosy_dump.specs.Texts.{head}
use Rattle.nosy_dump.specs.Dump.{IsJudged}
use Rattle.nosy_dump.specs.Noted.{Noted, after}
use Rattle.nosy_dump.specs.codings.Going.{ShowsReset}

pub shows_one : (form : LogForm) (p : DumpReset) (n m : ℕ) (x u : Noted) (b c : Bool)
    (was is text bytes : List ℕ) (before heard : Option Tree) →
    before ≡ x.tree → IsJudged form n before p text heard → bytes ≡ text →
    is ≡ was ++ bytes → u ≡ after x heard → c ≡ (b || is_none heard) →
    (n < 2 ^ 64 - 1 → m ≡ n + 1) → ShowsReset form p n x b m u c was is
shows_one form p n m x u b c was is text bytes before heard is_before shown same gathered tree bad
    number = record {
      text = text;
      here = is_none heard;
      shown = record {
        heard = heard;
        shown = subst (λ (y : Option Tree). IsJudged form n y p text heard) is_before shown;
        bad_is = refl;
        next_is = tree;
      };
      bad = bad;
      gathered = gathered ∙ ap (λ (l : List ℕ). was ++ l) same;
      number_is = number;
    }

-- ---- bytes of a record that were kept

none_of : (xs : List ℕ) → length xs ≡ 0 → xs ≡ []
none_of [] e = refl
none_of (x ∷ xs) e = absurd (omega (arith, e))

pub none_kept : (size : ℕ) (xs : List ℕ) (test : Bool) → test ≡ (size == 0) → test ≡ true →
    size ≡ length xs → xs ≡ []
none_kept size xs test e is same =
    let none : (size == 0) ≡ true = sym e ∙ is in
    let few : length xs ≡ 0 = grind (arith, nat_tests) in
    none_of xs few

-- as text
pub in_text : (standard : Standard) (n : ℕ) (p : DumpReset) (front list text : List ℕ)
    (before heard : Option Tree) →
    front ≡ head n p → list ≡ p.list → IsListShown standard Core front list before text heard →
    IsJudged (Text standard) n before p text heard
in_text standard n p front list text before heard is_front is_list shown =
    subst (λ (l : List ℕ). IsListShown standard Core l p.list before text heard) is_front
    (subst (λ (l : List ℕ). IsListShown standard Core front l before text heard) is_list shown)

-- in one line
pub in_short : (standard : Standard) (n : ℕ) (p : DumpReset) (front list text : List ℕ)
    (before heard : Option Tree) →
    front ≡ head n p → list ≡ p.list → IsListShort standard Core front list text heard →
    IsJudged (Short standard) n before p text heard
in_short standard n p front list text before heard is_front is_list shown =
    subst (λ (l : List ℕ). IsListShort standard Core l p.list text heard) is_front
    (subst (λ (l : List ℕ). IsListShort standard Core front l text heard) is_list shown)

-- A reset whose list was judged.
use Rattle.std.proofs.Common.{◌≡◌, ◌==◌, ℕ, Bool, true, false, is_none, Option, List, subst}
use Rattle.self_id.specs.declared.standard.Standard.{Standard}
use Rattle.reset_list.specs.declared.form.LogForm.{LogForm}
use Rattle.reset_list.specs.declared.form.LogForm.TheVariants.{Text, Short}
use Rattle.topology_stack.specs.Tree.{Tree}
use Rattle.log_line.specs.declared.line.Reset.{Reset}
use Rattle.reset_log.specs.declared.cards.Known.{Known}
use Rattle.reset_log.specs.Noted.{Noted, is_repeated, compared, after}
use Rattle.reset_log.specs.Texts.{head}
use Rattle.reset_list.specs.Shown.{IsListShown, IsListShort}
use Rattle.reset_log.specs.Shown.{IsJudged, IsResetShown, is_judged}

pub judged : (form : LogForm) (number lacks : ℕ) (before : Option Known) (n next : Noted) (r : Reset) (text : List ℕ) (heard : Option Tree) (bad : Bool) →
    is_repeated before r ≡ false → r.is_error ≡ false → (lacks == 0) ≡ true → IsJudged form number before r text heard →
    bad ≡ is_none heard → next ≡ after form n r heard bad →
    IsResetShown form number lacks before n r text bad next
judged form number lacks before n next r text heard bad new no_error none shown is_bad is_next =
    is_judged heard new no_error none shown is_bad (subst (λ (b : Bool). next ≡ after form n r heard b) is_bad is_next)

-- as text
pub in_text : (standard : Standard) (number : ℕ) (before : Option Known) (r : Reset) (front list text : List ℕ) (old heard : Option Tree) →
    front ≡ head number before r → list ≡ r.list → old ≡ compared before r →
    IsListShown standard r.origin front list old text heard →
    IsJudged (Text standard) number before r text heard
in_text standard number before r front list text old heard is_front is_list is_old shown =
    subst (λ (f : List ℕ). IsListShown standard r.origin f r.list (compared before r) text heard) is_front
    (subst (λ (l : List ℕ). IsListShown standard r.origin front l (compared before r) text heard) is_list
    (subst (λ (b : Option Tree). IsListShown standard r.origin front list b text heard) is_old shown))

-- in one line
pub in_short : (standard : Standard) (number : ℕ) (before : Option Known) (r : Reset) (front list text : List ℕ) (heard : Option Tree) →
    front ≡ head number before r → list ≡ r.list → IsListShort standard r.origin front list text heard →
    IsJudged (Short standard) number before r text heard
in_short standard number before r front list text heard is_front is_list shown =
    subst (λ (f : List ℕ). IsListShort standard r.origin f r.list text heard) is_front
    (subst (λ (l : List ℕ). IsListShort standard r.origin front l text heard) is_list shown)

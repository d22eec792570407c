-- A log has one text.
use Rattle.std.proofs.Common.{◌≡◌, ◌==◌, ◌∙◌, ℕ, Bool, true, false, ◌||◌, is_none, Option, Some, None, List, ◌++◌, sym, ap, subst}
use Rattle.std.proofs.lemmas.Bool.{both_ways}
use Rattle.json.specs.Json.{Members}
use Rattle.bus_json.specs.Text.{json_line}
use Rattle.reset_list.specs.declared.form.LogForm.{LogForm}
use Rattle.reset_list.specs.declared.form.LogForm.TheVariants.{Text, Short, Json}
use Rattle.reset_log.specs.Json.{reset_value}
use Rattle.topology_stack.specs.Tree.{Tree}
use Rattle.log_line.specs.declared.line.Reset.{Reset}
use Rattle.log_line.specs.declared.line.LogLine.{LogLine}
use Rattle.log_line.specs.declared.line.LogLine.TheVariants.{Other, Lost, Said, Begins, Packet, Garbled, OfReset}
use Rattle.reset_log.specs.declared.cards.Known.{Known}
use Rattle.reset_log.specs.Noted.{Noted, nothing, last_of, compared, after, waits_of, ended, begun_at, with_packet}
use Rattle.log_line.specs.declared.line.Begun.{Begun}
use Rattle.reset_log.specs.declared.notes.Pending.{Pending}
use Rattle.log_line.specs.Line.{line_of}
use Rattle.reset_log.specs.Texts.{head}
use Rattle.reset_log.specs.Shown.{IsJudged, totals_text, IsResetShown, is_passed_over, is_unjudged, is_lacking, is_judged, IsPendingShown, IsWholeShown, IsBegunShown, IsPacketShown, IsLogLineShown, IsLineShown}
use Rattle.reset_log.specs.Log.{lines_of, IsLogShown}
use Rattle.reset_log.specs.OneText.{NoLogHasTwoTexts}
use Rattle.reset_list.proofs.Lemmas.{AreSame, told_once, same_list, same_short, same_told}

same_judged : (form : LogForm) (n : ℕ) (before : Option Known) (r : Reset) (a b : List ℕ) (h g : Option Tree) →
    IsJudged form n before r a h → IsJudged form n before r b g → (a ≡ b) × (h ≡ g)
same_judged (Text standard) n before r a b h g x y =
    same_list standard r.origin (head n before r) r.list (compared before r) a b h g x y
same_judged (Short standard) n before r a b h g x y =
    same_short standard r.origin (head n before r) r.list a b h g x y
same_judged (Json standard) n before r a b h g x y =
    let same = same_told standard r.origin r.list x.members y.members h g x.told y.told in
    (x.text_is ∙ ap (λ (m : Members). json_line (reset_value n before r m)) same.0 ∙ sym y.text_is, same.1)

module _ (form : LogForm) (n lacks : ℕ) (before : Option Known) (ks : Noted) (r : Reset) (a b : List ℕ) (c d : Bool) (p q : Noted) where
  same_reset : IsResetShown form n lacks before ks r a c p → IsResetShown form n lacks before ks r b d q →
      AreSame a b c d p q
  same_reset (is_passed_over rep e f g) (is_passed_over too h i j) = (e ∙ sym h, f ∙ sym i, g ∙ sym j)
  same_reset (is_passed_over rep e f g) (is_unjudged new err h i j) = absurd (both_ways _ new rep)
  same_reset (is_passed_over rep e f g) (is_lacking new well some h i j) = absurd (both_ways _ new rep)
  same_reset (is_passed_over rep e f g) (is_judged heard new well none shown i j) = absurd (both_ways _ new rep)
  same_reset (is_unjudged new err e f g) (is_passed_over rep h i j) = absurd (both_ways _ new rep)
  same_reset (is_lacking new well some e f g) (is_passed_over rep h i j) = absurd (both_ways _ new rep)
  same_reset (is_judged heard new well none shown e f) (is_passed_over rep h i j) = absurd (both_ways _ new rep)
  same_reset (is_unjudged new err e f g) (is_unjudged now too h i j) = (e ∙ sym h, f ∙ sym i, g ∙ sym j)
  same_reset (is_unjudged new err e f g) (is_lacking now well some h i j) = absurd (both_ways r.is_error well err)
  same_reset (is_unjudged new err e f g) (is_judged heard now well none shown i j) = absurd (both_ways r.is_error well err)
  same_reset (is_lacking new well some e f g) (is_unjudged now err h i j) = absurd (both_ways r.is_error well err)
  same_reset (is_judged heard new well none shown i j) (is_unjudged now err e f g) = absurd (both_ways r.is_error well err)
  same_reset (is_lacking new well some e f g) (is_lacking now fine too h i j) = (e ∙ sym h, f ∙ sym i, g ∙ sym j)
  same_reset (is_lacking new well some e f g) (is_judged heard now fine none shown i j) = absurd (both_ways (lacks == 0) some none)
  same_reset (is_judged heard new well none shown i j) (is_lacking now fine some e f g) = absurd (both_ways (lacks == 0) some none)
  same_reset (is_judged h new well none shown e f) (is_judged g now too one again i j) =
      let same = same_judged form n before r a b h g shown again in (
        same.0,
        e ∙ ap (λ (t : Option Tree). is_none t) same.1 ∙ sym i,
        f ∙ ap (λ (t : Option Tree). after form ks r t (is_none t)) same.1 ∙ sym j,
      )

same_pending : (form : LogForm) (pending : Option Pending) (ks : Noted) (a b : List ℕ) (c d : Bool) (p q : Noted) →
    IsPendingShown form pending ks a c p → IsPendingShown form pending ks b d q → AreSame a b c d p q
same_pending form None ks a b c d p q x y = (x.0 ∙ sym y.0, x.1 ∙ sym y.1, x.2 ∙ sym y.2)
same_pending form (Some w) ks a b c d p q x y = same_reset form w.number w.left (last_of w.reset.card ks.cards) ks w.reset a b c d p q x y

same_whole : (form : LogForm) (whole : Bool) (w : Pending) (ks : Noted) (a b : List ℕ) (c d : Bool) (p q : Noted) →
    IsWholeShown form whole w ks a c p → IsWholeShown form whole w ks b d q → AreSame a b c d p q
same_whole form false w ks a b c d p q x y = (x.0 ∙ sym y.0, x.1 ∙ sym y.1, x.2 ∙ sym y.2)
same_whole form true w ks a b c d p q x y = same_pending form (Some w) (ended w.reset.card ks) a b c d p q x y

same_begun : (form : LogForm) (n : ℕ) (ks : Noted) (begun : Begun) (a b : List ℕ) (c d : Bool) (p q : Noted) →
    IsBegunShown form n ks begun a c p → IsBegunShown form n ks begun b d q → AreSame a b c d p q
same_begun form n ks begun a b c d p q x y =
    let one =
    same_pending form (waits_of begun.card ks) (ended begun.card ks) x.first y.first x.here y.here x.mid y.mid x.before y.before
    in
    let begins : IsWholeShown form (begun.count == 0) (begun_at n begun) y.mid x.second x.later p =
    subst (λ (m : Noted). IsWholeShown form (begun.count == 0) (begun_at n begun) m x.second x.later p) one.2 x.begins
    in
    let two = same_whole form (begun.count == 0) (begun_at n begun) y.mid x.second y.second x.later y.later p q begins y.begins in (
      x.text_is ∙ ap (λ (l : List ℕ). l ++ x.second) one.0 ∙ ap (λ (l : List ℕ). y.first ++ l) two.0 ∙ sym y.text_is,
      x.bad_is ∙ ap (λ (v : Bool). v || x.later) one.1 ∙ ap (λ (v : Bool). y.here || v) two.1 ∙ sym y.bad_is,
      two.2,
    )

same_packet : (form : LogForm) (waits : Option Pending) (quad : ℕ) (ks : Noted) (a b : List ℕ) (c d : Bool) (p q : Noted) →
    IsPacketShown form waits quad ks a c p → IsPacketShown form waits quad ks b d q → AreSame a b c d p q
same_packet form None quad ks a b c d p q x y = (x.0 ∙ sym y.0, x.1 ∙ sym y.1, x.2 ∙ sym y.2)
same_packet form (Some w) quad ks a b c d p q x y =
    same_whole form ((with_packet quad w).left == 0) (with_packet quad w) ks a b c d p q x y

same_shown : (form : LogForm) (n : ℕ) (ks : Noted) (line : LogLine) (a b : List ℕ) (c d : Bool) (p q : Noted) →
    IsLogLineShown form n ks line a c p → IsLogLineShown form n ks line b d q → AreSame a b c d p q
same_shown form n ks Other a b c d p q x y = (x.0 ∙ sym y.0, x.1 ∙ sym y.1, x.2 ∙ sym y.2)
same_shown form n ks Lost a b c d p q x y = (x.0 ∙ sym y.0, x.1 ∙ sym y.1, x.2 ∙ sym y.2)
same_shown form n ks (Said time words) a b c d p q x y = (x.0 ∙ sym y.0, x.1 ∙ sym y.1, x.2 ∙ sym y.2)
same_shown form n ks (Begins begun) a b c d p q x y = same_begun form n ks begun a b c d p q x y
same_shown form n ks (Packet card quad) a b c d p q x y = same_packet form (waits_of card ks) quad (ended card ks) a b c d p q x y
same_shown form n ks Garbled a b c d p q x y = (x.0 ∙ sym y.0, x.1 ∙ sym y.1, x.2 ∙ sym y.2)
same_shown form n ks (OfReset r) a b c d p q x y = same_reset form n 0 (last_of r.card ks.cards) ks r a b c d p q x y

pub same_line : (form : LogForm) (n : ℕ) (ks : Noted) (line a b : List ℕ) (c d : Bool) (p q : Noted) →
    IsLineShown form n ks line a c p → IsLineShown form n ks line b d q →
    AreSame a b c d p q
same_line form n ks line a b c d p q x y =
    same_shown form n ks (line_of line) a b c d p q x y

pub one_lines : (form : LogForm) (lines : List (List ℕ)) (a b : List ℕ) (c d : Bool) →
    IsLogShown form lines a c → IsLogShown form lines b d → (a ≡ b) × (c ≡ d)
one_lines form lines a b c d x y =
    let same =
    told_once (IsLineShown form) (λ n ks line e f g h p q. same_line form n ks line e f g h p q) 1 nothing lines x.told y.told c d x.known y.known x.shown y.shown
    in (x.text_is ∙ ap (λ (l : List ℕ). l ++ totals_text form x.known) same.0 ∙ ap (λ (k : Noted). y.told ++ totals_text form k) same.2 ∙ sym y.text_is, same.1)

pub one_text : NoLogHasTwoTexts
one_text form log a b c d x y = one_lines form (lines_of log) a b c d x y

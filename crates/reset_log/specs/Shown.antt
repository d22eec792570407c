-- What is shown of a line of the log.
use Rattle.std.specs.Prelude.{◌≡◌, ℕ, ◌==◌, ◌||◌, is_none, Bool, true, false, Option, Some, None, List, [], ◌++◌}
use Rattle.topology_stack.specs.Tree.{Tree}
use Rattle.log_line.specs.declared.line.Reset.{Reset}
use Rattle.log_line.specs.declared.line.LogLine.{LogLine}
use Rattle.log_line.specs.declared.line.LogLine.TheVariants.{Other, Lost, Said, Begins, Packet, Garbled, OfReset}
use Rattle.reset_log.specs.declared.cards.Known.{Known}
use Rattle.log_line.specs.declared.line.Begun.{Begun}
use Rattle.reset_log.specs.declared.notes.Pending.{Pending}
use Rattle.log_line.specs.Line.{line_of}
use Rattle.reset_log.specs.Noted.{Noted, is_repeated, last_of, compared, after, behind_loss, waits_of, ended, waiting, begun_at, with_packet}
use Rattle.reset_log.specs.Texts.{garbled, lost, told, all_losses, totals, head, unjudged, lacking}
use Rattle.bus_json.specs.Text.{json_line}
use Rattle.reset_list.specs.declared.form.LogForm.{LogForm}
use Rattle.reset_list.specs.declared.form.LogForm.TheVariants.{Text, Short, Json}
use Rattle.reset_log.specs.Json.{IsResetTold, unjudged_value, lacking_value, garbled_value, lost_value, told_value, totals_lines}
use Rattle.reset_list.specs.Shown.{IsListShown, IsListShort}

-- ---- in a form: as text, as one line for each reset, or as lines of JSON

-- what is shown of a reset that is judged, and the tree that its list is heard as, if it is
abbrev pub IsJudged :
    LogForm → ℕ → Option Known → Reset → List ℕ → Option Tree → Type 0
IsJudged (Text standard) number before r text heard =
    IsListShown standard r.origin (head number before r) r.list (compared before r) text heard
IsJudged (Short standard) number before r text heard =
    IsListShort standard r.origin (head number before r) r.list text heard
IsJudged (Json standard) number before r text heard =
    IsResetTold standard number before r text heard

abbrev pub unjudged_text : LogForm → ℕ → Option Known → Reset → List ℕ
unjudged_text (Text standard) number before r = unjudged number before r
unjudged_text (Short standard) number before r = unjudged number before r
unjudged_text (Json standard) number before r = json_line (unjudged_value number before r)

abbrev pub lacking_text : LogForm → ℕ → Option Known → Reset → ℕ → List ℕ
lacking_text (Text standard) number before r lacks = lacking number before r lacks
lacking_text (Short standard) number before r lacks = lacking number before r lacks
lacking_text (Json standard) number before r lacks = json_line (lacking_value number before r lacks)

abbrev pub garbled_text : LogForm → ℕ → List ℕ
garbled_text (Text standard) number = garbled number
garbled_text (Short standard) number = garbled number
garbled_text (Json standard) number = json_line (garbled_value number)

abbrev pub lost_text : LogForm → ℕ → List ℕ
lost_text (Text standard) number = lost number
lost_text (Short standard) number = lost number
lost_text (Json standard) number = json_line (lost_value number)

abbrev pub told_text : LogForm → ℕ → Option ℕ → List ℕ → List ℕ
told_text (Text standard) number time words = told number time words
told_text (Short standard) number time words = told number time words
told_text (Json standard) number time words = json_line (told_value number time words)

abbrev pub totals_text : LogForm → Noted → List ℕ
totals_text (Text standard) n = totals n
totals_text (Short standard) n = all_losses n.losses ++ totals n
totals_text (Json standard) n = totals_lines n

-- ---- a line

-- what is shown of a reset in the line with this number, of which the log lacks so many packets, whether it is
-- at fault, and what is noted behind it; `before` is the card's reset before, if there was one
pub data IsResetShown (form : LogForm) (number lacks : ℕ) (before : Option Known) (n : Noted) (r : Reset)
    (text : List ℕ) (bad : Bool) (next : Noted) : Type 0 where
  is_passed_over : is_repeated before r ≡ true → text ≡ [] → bad ≡ false → next ≡ n →
      IsResetShown form number lacks before n r text bad next
  is_unjudged : is_repeated before r ≡ false → r.is_error ≡ true →
      text ≡ unjudged_text form number before r → bad ≡ false → next ≡ after form n r None false →
      IsResetShown form number lacks before n r text bad next
  is_lacking : is_repeated before r ≡ false → r.is_error ≡ false → (lacks == 0) ≡ false →
      text ≡ lacking_text form number before r lacks → bad ≡ false → next ≡ after form n r None false →
      IsResetShown form number lacks before n r text bad next
  is_judged : (heard : Option Tree) → is_repeated before r ≡ false → r.is_error ≡ false →
      (lacks == 0) ≡ true → IsJudged form number before r text heard →
      bad ≡ is_none heard → next ≡ after form n r heard (is_none heard) →
      IsResetShown form number lacks before n r text bad next

-- what is shown of a reset that waited for its packets, if one did, and waits no more
abbrev pub IsPendingShown :
    LogForm → Option Pending → Noted → List ℕ → Bool → Noted → Type 0
IsPendingShown form None n text bad next = (text ≡ []) × (bad ≡ false) × (next ≡ n)
IsPendingShown form (Some p) n text bad next =
    IsResetShown form p.number p.left (last_of p.reset.card n.cards) n p.reset text bad next

-- whether no packet of a reset is still to come: it is shown, and else it waits
abbrev pub IsWholeShown :
    LogForm → Bool → Pending → Noted → List ℕ → Bool → Noted → Type 0
IsWholeShown form false p n text bad next = (text ≡ []) × (bad ≡ false) × (next ≡ waiting p n)
IsWholeShown form true p n text bad next =
    IsPendingShown form (Some p) (ended p.reset.card n) text bad next

-- what is shown where a reset of such packets begins: of the card's one before, as far as its packets came, and
-- of the new one, if it has none
pub record IsBegunShown (form : LogForm) (number : ℕ) (n : Noted) (b : Begun) (text : List ℕ)
    (bad : Bool) (next : Noted) : Type 0 where
  pub first : List ℕ
  pub second : List ℕ
  pub here : Bool
  pub later : Bool
  pub mid : Noted
  pub before : IsPendingShown form (waits_of b.card n) (ended b.card n) first here mid
  pub begins : IsWholeShown form (b.count == 0) (begun_at number b) mid second later next
  pub text_is : text ≡ first ++ second
  pub bad_is : bad ≡ here || later

-- what is shown of a packet, where a reset of its card waits for it
abbrev pub IsPacketShown : LogForm → Option Pending → ℕ → Noted → List ℕ → Bool → Noted → Type 0
IsPacketShown form None quad n text bad next = (text ≡ []) × (bad ≡ false) × (next ≡ n)
IsPacketShown form (Some p) quad n text bad next =
    IsWholeShown form ((with_packet quad p).left == 0) (with_packet quad p) n text bad next

-- what is shown of what a line is
abbrev pub IsLogLineShown : LogForm → ℕ → Noted → LogLine → List ℕ → Bool → Noted → Type 0
IsLogLineShown form number n Other text bad next = (text ≡ []) × (bad ≡ false) × (next ≡ n)
IsLogLineShown form number n Lost text bad next =
    (text ≡ lost_text form number) × (bad ≡ false) × (next ≡ behind_loss n)
IsLogLineShown form number n (Said time words) text bad next =
    (text ≡ told_text form number time words) × (bad ≡ false) × (next ≡ n)
IsLogLineShown form number n Garbled text bad next =
    (text ≡ garbled_text form number) × (bad ≡ true) × (next ≡ n)
IsLogLineShown form number n (Begins b) text bad next =
    IsBegunShown form number n b text bad next
IsLogLineShown form number n (Packet card quad) text bad next =
    IsPacketShown form (waits_of card n) quad (ended card n) text bad next
IsLogLineShown form number n (OfReset r) text bad next =
    IsResetShown form number 0 (last_of r.card n.cards) n r text bad next

abbrev pub IsLineShown : LogForm → ℕ → Noted → List ℕ → List ℕ → Bool → Noted → Type 0
IsLineShown form number n line text bad next =
    IsLogLineShown form number n (line_of line) text bad next

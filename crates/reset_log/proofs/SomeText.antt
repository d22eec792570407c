-- Each log has a text.
use Rattle.std.proofs.Common.{◌≡◌, ◌==◌, ℕ, ◌^◌, ◌<◌, Bool, true, false, cond, ◌||◌, is_none, Option, Some, None, List, [], ◌∷◌, ◌++◌, refl}
use Rattle.std.specs.declared.cmp.Ordering.{Ordering}
use Rattle.std.specs.declared.cmp.Ordering.TheVariants.{Less, Equal, Greater}
use Rattle.std.specs.Ordering.{nat_cmp, match_ordering}
use Rattle.std.specs.BTreeMap.{is_at, insert_entry}
use Rattle.std.specs.Map.{lookup, remove_entry}
use Rattle.bus_json.specs.Text.{json_line}
use Rattle.reset_list.specs.declared.form.LogForm.{LogForm}
use Rattle.reset_list.specs.declared.form.LogForm.TheVariants.{Text, Short, Json}
use Rattle.reset_log.specs.Json.{reset_value}
use Rattle.topology_stack.specs.Tree.{Tree}
use Rattle.log_line.specs.declared.line.Reset.{Reset}
use Rattle.log_line.specs.declared.line.LogLine.{LogLine}
use Rattle.log_line.specs.declared.line.LogLine.TheVariants.{Other, Lost, Said, Begins, Packet, Garbled, OfReset}
use Rattle.reset_log.specs.Noted.{Noted, nothing, is_repeated, last_of, compared, after, behind_loss, waits_of, ended, waiting, begun_at, with_packet}
use Rattle.reset_log.specs.declared.cards.Known.{Known}
use Rattle.log_line.specs.Line.{line_of}
use Rattle.log_line.specs.declared.line.Begun.{Begun}
use Rattle.reset_log.specs.declared.notes.Pending.{Pending}
use Rattle.reset_log.specs.Texts.{head}
use Rattle.reset_log.specs.Shown.{IsJudged, unjudged_text, lacking_text, garbled_text, lost_text, told_text, totals_text, IsResetShown, is_passed_over, is_unjudged, is_lacking, is_judged, IsPendingShown, IsWholeShown, IsBegunShown, IsPacketShown, IsLogLineShown, IsLineShown}
use Rattle.reset_log.specs.Log.{lines_of}
use Rattle.reset_log.specs.OneText.{EachLogHasAText}
use Rattle.reset_list.proofs.Lemmas.{some_list, some_short, some_told, told_some_in}
use Rattle.log_line.proofs.Lemmas.{Fit, line_fits, line_packet_fits}

-- ---- the list of a reset that waits

pub fit_push : (quads : List ℕ) (q : ℕ) → Fit quads → q < 2 ^ 32 → Fit (quads ++ q ∷ [])
fit_push [] q f lt = (lt, tt)
fit_push (p ∷ quads) q f lt = (f.0, fit_push quads q f.1 lt)

abbrev pub IsFinePending : Option Pending → Type 0
IsFinePending None = Unit {0}
IsFinePending (Some p) = Fit p.reset.list

abbrev pub AreFine : List (ℕ × Pending) → Type 0
AreFine [] = Unit {0}
AreFine (e ∷ es) = Fit e.1.reset.list × AreFine es

abbrev pub IsFine : Noted → Type 0
IsFine n = AreFine n.pending

pub fine_found : (test : ℕ → Bool) (es : List (ℕ × Pending)) → AreFine es → IsFinePending (lookup test es)
fine_found test [] fine = tt
fine_found test (e ∷ es) fine = go (test e.0) (fine_found test es fine.1)
  where
    go : (v : Bool) → IsFinePending (lookup test es) → IsFinePending (cond v (Some e.1) (lookup test es))
    go true later = fine.0
    go false later = later

pub fine_without : (test : ℕ → Bool) (es : List (ℕ × Pending)) → AreFine es → AreFine (remove_entry test es)
fine_without test [] fine = tt
fine_without test (e ∷ es) fine = go (test e.0) (fine_without test es fine.1)
  where
    go : (v : Bool) → AreFine (remove_entry test es) → AreFine (cond v es (e ∷ remove_entry test es))
    go true later = fine.1
    go false later = (fine.0, later)

pub fine_with : (card : ℕ) (p : Pending) (es : List (ℕ × Pending)) → Fit p.reset.list → AreFine es →
    AreFine (insert_entry nat_cmp es card p)
fine_with card p [] fit fine = (fit, tt)
fine_with card p (e ∷ es) fit fine = go (nat_cmp card e.0) (fine_with card p es fit fine.1)
  where
    go : (o : Ordering) → AreFine (insert_entry nat_cmp es card p) →
        AreFine (match_ordering o ((card, p) ∷ e ∷ es) ((e.0, p) ∷ es) (e ∷ insert_entry nat_cmp es card p))
    go Less later = (fit, fine)
    go Equal later = (fit, fine.1)
    go Greater later = (fine.0, later)

fine_ended : (card : ℕ) (ks : Noted) → IsFine ks → IsFine (ended card ks)
fine_ended card ks fine = fine_without (is_at (nat_cmp card)) ks.pending fine

fine_waiting : (p : Pending) (ks : Noted) → Fit p.reset.list → IsFine ks → IsFine (waiting p ks)
fine_waiting p ks fit fine = fine_with p.reset.card p (ended p.reset.card ks).pending fit (fine_ended p.reset.card ks fine)

abbrev SomeStep : (List ℕ → Bool → Noted → Type 0) → Type 0
SomeStep Is = (text : List ℕ) × (bad : Bool) × (next : Noted) × Is text bad next × IsFine next

some_judged : (form : LogForm) (n : ℕ) (before : Option Known) (r : Reset) → Fit r.list →
    (text : List ℕ) × (heard : Option Tree) × IsJudged form n before r text heard
some_judged (Text standard) n before r f =
    some_list standard r.origin (head n before r) r.list (compared before r) f
some_judged (Short standard) n before r f =
    some_short standard r.origin (head n before r) r.list
some_judged (Json standard) n before r f =
    let l = some_told standard r.origin r.list in
    (json_line (reset_value n before r l.0), l.1, record { members = l.0; told = l.2; text_is = refl })

some_reset : (form : LogForm) (n lacks : ℕ) (before : Option Known) (ks : Noted) (r : Reset) → Fit r.list → IsFine ks →
    SomeStep (IsResetShown form n lacks before ks r)
some_reset form n lacks before ks r f fine = go (is_repeated before r) r.is_error (lacks == 0) refl refl refl
  where
    go : (u v w : Bool) → is_repeated before r ≡ u → r.is_error ≡ v → (lacks == 0) ≡ w →
        SomeStep (IsResetShown form n lacks before ks r)
    go true v w d e g = ([], false, ks, is_passed_over d refl refl refl, fine)
    go false true w d e g = (unjudged_text form n before r, false, after form ks r None false, is_unjudged d e refl refl refl, fine)
    go false false false d e g =
        (lacking_text form n before r lacks, false, after form ks r None false, is_lacking d e g refl refl refl, fine)
    go false false true d e g =
        let l = some_judged form n before r f in
        (l.0, is_none l.1, after form ks r l.1 (is_none l.1), is_judged l.1 d e g l.2 refl refl, fine)

some_pending : (form : LogForm) (pending : Option Pending) (ks : Noted) → IsFinePending pending → IsFine ks →
    SomeStep (IsPendingShown form pending ks)
some_pending form None ks fit fine = ([], false, ks, (refl, refl, refl), fine)
some_pending form (Some p) ks fit fine = some_reset form p.number p.left (last_of p.reset.card ks.cards) ks p.reset fit fine

some_whole : (form : LogForm) (whole : Bool) (p : Pending) (ks : Noted) → Fit p.reset.list → IsFine ks →
    SomeStep (IsWholeShown form whole p ks)
some_whole form false p ks fit fine = ([], false, waiting p ks, (refl, refl, refl), fine_waiting p ks fit fine)
some_whole form true p ks fit fine = some_pending form (Some p) (ended p.reset.card ks) fit (fine_ended p.reset.card ks fine)

some_begun : (form : LogForm) (n : ℕ) (ks : Noted) (begun : Begun) → IsFine ks →
    SomeStep (IsBegunShown form n ks begun)
some_begun form n ks begun fine =
    let waits = fine_found (is_at (nat_cmp begun.card)) ks.pending fine in
    let one = some_pending form (waits_of begun.card ks) (ended begun.card ks) waits (fine_ended begun.card ks fine) in
    let two = some_whole form (begun.count == 0) (begun_at n begun) one.2 tt one.4 in (
      one.0 ++ two.0,
      one.1 || two.1,
      two.2,
      record {
        first = one.0;
        second = two.0;
        here = one.1;
        later = two.1;
        mid = one.2;
        before = one.3;
        begins = two.3;
        text_is = refl;
        bad_is = refl;
      },
      two.4,
    )

some_packet : (form : LogForm) (waits : Option Pending) (quad : ℕ) (ks : Noted) → IsFinePending waits → quad < 2 ^ 32 → IsFine ks →
    SomeStep (IsPacketShown form waits quad ks)
some_packet form None quad ks fit lt fine = ([], false, ks, (refl, refl, refl), fine)
some_packet form (Some p) quad ks fit lt fine =
    some_whole form ((with_packet quad p).left == 0) (with_packet quad p) ks (fit_push p.reset.list quad fit lt) fine

some_shown : (form : LogForm) (n : ℕ) (ks : Noted) (line : LogLine) →
    ((r : Reset) → line ≡ OfReset r → Fit r.list) →
    ((card quad : ℕ) → line ≡ Packet card quad → quad < 2 ^ 32) → IsFine ks → SomeStep (IsLogLineShown form n ks line)
some_shown form n ks Other f g fine = ([], false, ks, (refl, refl, refl), fine)
some_shown form n ks Lost f g fine = (lost_text form n, false, behind_loss ks, (refl, refl, refl), fine)
some_shown form n ks (Said time words) f g fine = (told_text form n time words, false, ks, (refl, refl, refl), fine)
some_shown form n ks (Begins begun) f g fine = some_begun form n ks begun fine
some_shown form n ks (Packet card quad) f g fine =
    some_packet form (waits_of card ks) quad (ended card ks) (fine_found (is_at (nat_cmp card)) ks.pending fine) (g card quad refl) (fine_ended card ks fine)
some_shown form n ks Garbled f g fine = (garbled_text form n, true, ks, (refl, refl, refl), fine)
some_shown form n ks (OfReset r) f g fine = some_reset form n 0 (last_of r.card ks.cards) ks r (f r refl) fine

some_line : (form : LogForm) (n : ℕ) (ks : Noted) (line : List ℕ) → IsFine ks →
    SomeStep (IsLineShown form n ks line)
some_line form n ks line fine = some_shown form n ks (line_of line) (line_fits line) (line_packet_fits line) fine

pub some_text : EachLogHasAText
some_text form log =
    let t = told_some_in (IsLineShown form) (λ (ks : Noted). IsFine ks) (λ n ks line fine. some_line form n ks line fine) 1 nothing (lines_of log) tt in
    (t.0 ++ totals_text form t.2, t.1, record { known = t.2; told = t.0; shown = t.3; text_is = refl })

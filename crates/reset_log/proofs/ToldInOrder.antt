-- A log is told entry by entry, in order.
use Rattle.std.proofs.Common.{◌≡◌, ◌∙◌, ◌⊎◌, inl, inr, ℕ, ◌+◌, ◌^◌, ◌<◌, ◌==◌, Bool, true, false, cond, ◌||◌, is_none, Option, Some, None, List, [], ◌∷◌, ◌++◌, refl, sym, ap, subst, append_assoc, append-nil, arith}
use Rattle.std.specs.Prelude.{◌&&◌, not, fold, map, All}
use Rattle.std.proofs.Math.Bool.{or_assoc}
use Rattle.std.proofs.lemmas.List.Elements.{All-nil}
use Rattle.std.specs.BTreeMap.{is_at}
use Rattle.std.specs.Ordering.{nat_cmp}
use Rattle.bus_json.specs.Text.{json_line}
use Rattle.json.specs.Json.{Members}
use Rattle.io_edges.specs.Faults.{next_count}
use Rattle.self_id.specs.declared.standard.Standard.{Standard}
use Rattle.topology_stack.specs.Tree.{Tree}
use Rattle.capture_reading.specs.declared.fault.CaptureFault.{CaptureFault}
use Rattle.capture_reading.specs.Capture.{Spells, CaptureRefused}
use Rattle.log_line.specs.declared.line.Begun.{Begun}
use Rattle.log_line.specs.declared.line.Reset.{Reset}
use Rattle.log_line.specs.declared.line.LogLine.{LogLine}
use Rattle.log_line.specs.declared.line.LogLine.TheVariants.{Other, Lost, Said, Begins, Packet, Garbled, OfReset}
use Rattle.log_line.specs.Line.{line_of}
use Rattle.log_line.proofs.Lemmas.{Fit, line_fits, line_packet_fits}
use Rattle.reset_list.specs.declared.counts.Counts.{Counts}
use Rattle.reset_list.specs.declared.counts.Tally.{Tally}
use Rattle.reset_list.specs.declared.losses.Loss.{Loss}
use Rattle.reset_list.specs.declared.form.LogForm.{LogForm}
use Rattle.reset_list.specs.declared.form.LogForm.TheVariants.{Text, Short, Json}
use Rattle.reset_list.specs.Counts.{capped, counted}
use Rattle.reset_list.specs.Form.{standard_of}
use Rattle.reset_list.specs.InOrder.{AreTold}
use Rattle.reset_list.specs.Json.{IsListTold, told_refused, told_heard}
use Rattle.reset_list.specs.Judged.{capture_by, ListsAreHeardAsRead, ListsAreRefusedAsRead}
use Rattle.reset_list.specs.Losses.{losses_by}
use Rattle.reset_list.specs.Lost.{Step, losses_after, count_of, LossesAreCounted}
use Rattle.reset_list.specs.Shortest.{IsShortest, ShortestIsKept}
use Rattle.reset_list.specs.Shown.{is_refused, is_heard, short_refused, short_heard}
use Rattle.reset_list.proofs.Lemmas.{all_fit, counted_in, how_many_count}
use Rattle.reset_log.specs.declared.cards.Known.{Known}
use Rattle.reset_log.specs.declared.notes.Pending.{Pending}
use Rattle.reset_log.specs.Json.{reset_value}
use Rattle.reset_log.specs.Noted.{Noted, nothing, is_second, last_of, losses_in, after, behind_loss, waits_of, ended, with_pending, begun_at, with_packet}
use Rattle.reset_log.specs.Shown.{IsJudged, garbled_text, lost_text, told_text, totals_text, IsResetShown, is_passed_over, is_unjudged, is_lacking, is_judged, IsPendingShown, IsWholeShown, IsBegunShown, IsPacketShown, IsLogLineShown, IsLineShown}
use Rattle.reset_log.specs.Log.{lines_of}
use Rattle.reset_log.specs.Entries.{Entry, a_reset, a_loss, a_saying, a_garble, waits, without, with_one, entry_of, entry_if, waiting_if, entry_by, waiting_by, entries_at, waiting_at, entries_from, waiting_behind}
use Rattle.reset_log.specs.Told.{Verdict, passed_over, failed, lacking, spelt, refused, garbled, no_reset, Telling, IsWhole, IsVerdict, IsVerdictText, IsSpeltText, IsRefusedText, plain, IsTelling, cards_by, cards_behind, cards_after, AreTellings, texts, has_fault, is_garbled, is_shown, counts, refuses, some_bad, tallies_by, tallies_behind, tallies_after, step_of, steps_by, steps_at, steps_in, losses_in_all, LogsAreToldInOrder}
use Rattle.reset_log.proofs.SomeText.{fit_push, IsFinePending, AreFine, fine_found, fine_without, fine_with}

-- ---- counts

abbrev counts_behind : Counts → Telling → Counts
counts_behind c t = cond (is_shown t.verdict) (counted t.second (has_fault t.verdict) c) c

abbrev counts_after : Counts → List Telling → Counts
counts_after = fold counts_behind

-- ---- losses

-- what the short form keeps of them behind these resets
abbrev losses_kept : LogForm → List Loss → List Step → List Loss
losses_kept (Text standard) ls ss = ls
losses_kept (Short standard) ls ss = losses_after ls ss
losses_kept (Json standard) ls ss = ls

none_kept : (form : LogForm) (ls : List Loss) → ls ≡ losses_kept form ls []
none_kept (Text standard) ls = refl
none_kept (Short standard) ls = refl
none_kept (Json standard) ls = refl

one_kept : (form : LogForm) (r : Reset) (before : Option Known) (h : Option Tree) (ls : List Loss) →
    losses_in form r before h ls ≡ losses_kept form ls (step_of r before h ∷ [])
one_kept (Text standard) r before h ls = refl
one_kept (Short standard) r before h ls = refl
one_kept (Json standard) r before h ls = refl

losses-append : (ls : List Loss) (ss us : List Step) → losses_after ls (ss ++ us) ≡ losses_after (losses_after ls ss) us
losses-append ls [] us = refl
losses-append ls (s ∷ ss) us = losses-append (losses_by s.card s.time s.old s.new ls) ss us

kept-append : (form : LogForm) (ls : List Loss) (ss us : List Step) →
    losses_kept form ls (ss ++ us) ≡ losses_kept form (losses_kept form ls ss) us
kept-append (Text standard) ls ss us = refl
kept-append (Short standard) ls ss us = losses-append ls ss us
kept-append (Json standard) ls ss us = refl

all_kept : (form : LogForm) → LossesAreCounted → (cards : List Known) (es : List Entry) (ts : List Telling) →
    map count_of (losses_kept form [] (steps_in cards es ts)) ≡ losses_in_all form cards es ts
all_kept (Text standard) counts_them cards es ts = refl
all_kept (Short standard) counts_them cards es ts = counts_them (steps_in cards es ts)
all_kept (Json standard) counts_them cards es ts = refl

all_shortest : (form : LogForm) → ShortestIsKept → (ss : List Step) → All (IsShortest ss) (losses_kept form [] ss)
all_shortest (Text standard) keeps_them ss = All-nil (IsShortest ss)
all_shortest (Short standard) keeps_them ss = keeps_them ss
all_shortest (Json standard) keeps_them ss = All-nil (IsShortest ss)

-- ---- tellings in two parts

texts-append : (ts us : List Telling) → texts (ts ++ us) ≡ texts ts ++ texts us
texts-append [] us = refl
texts-append (t ∷ ts) us = ap (λ (l : List ℕ). t.text ++ l) (texts-append ts us) ∙ sym (append_assoc t.text (texts ts) (texts us))

bad-append : (ts us : List Telling) → some_bad (ts ++ us) ≡ (some_bad ts || some_bad us)
bad-append [] us = refl
bad-append (t ∷ ts) us =
    ap (λ (b : Bool). (has_fault t.verdict || is_garbled t.verdict) || b) (bad-append ts us)
    ∙ sym (or_assoc (has_fault t.verdict || is_garbled t.verdict) (some_bad ts) (some_bad us))

counts-append : (c : Counts) (ts us : List Telling) → counts_after c (ts ++ us) ≡ counts_after (counts_after c ts) us
counts-append c [] us = refl
counts-append c (t ∷ ts) us = counts-append (counts_behind c t) ts us

module _ (form : LogForm) where
  each-append : (cards : List Known) (es fs : List Entry) (ts us : List Telling) → AreTellings form cards es ts →
      AreTellings form (cards_after cards es ts) fs us → AreTellings form cards (es ++ fs) (ts ++ us)
  each-append cards [] fs [] us a b = b
  each-append cards [] fs (t ∷ ts) us a b = absurd a
  each-append cards (e ∷ es) fs [] us a b = absurd a
  each-append cards (e ∷ es) fs (t ∷ ts) us a b = (a.0, each-append (cards_behind cards e t) es fs ts us a.1 b)

  cards-append : (cards : List Known) (es fs : List Entry) (ts us : List Telling) → AreTellings form cards es ts →
      cards_after cards (es ++ fs) (ts ++ us) ≡ cards_after (cards_after cards es ts) fs us
  cards-append cards [] fs [] us a = refl
  cards-append cards [] fs (t ∷ ts) us a = absurd a
  cards-append cards (e ∷ es) fs [] us a = absurd a
  cards-append cards (e ∷ es) fs (t ∷ ts) us a = cards-append (cards_behind cards e t) es fs ts us a.1

  tallies-append : (cards : List Known) (tallies : List Tally) (es fs : List Entry) (ts us : List Telling) → AreTellings form cards es ts →
      tallies_after tallies (es ++ fs) (ts ++ us) ≡ tallies_after (tallies_after tallies es ts) fs us
  tallies-append cards tallies [] fs [] us a = refl
  tallies-append cards tallies [] fs (t ∷ ts) us a = absurd a
  tallies-append cards tallies (e ∷ es) fs [] us a = absurd a
  tallies-append cards tallies (e ∷ es) fs (t ∷ ts) us a = tallies-append (cards_behind cards e t) (tallies_behind tallies e t) es fs ts us a.1

  steps-append : (cards : List Known) (es fs : List Entry) (ts us : List Telling) → AreTellings form cards es ts →
      steps_in cards (es ++ fs) (ts ++ us) ≡ steps_in cards es ts ++ steps_in (cards_after cards es ts) fs us
  steps-append cards [] fs [] us a = refl
  steps-append cards [] fs (t ∷ ts) us a = absurd a
  steps-append cards (e ∷ es) fs [] us a = absurd a
  steps-append cards (e ∷ es) fs (t ∷ ts) us a =
      ap (λ (ss : List Step). steps_at cards e t ++ ss) (steps-append (cards_behind cards e t) es fs ts us a.1)
      ∙ sym (append_assoc (steps_at cards e t) (steps_in (cards_behind cards e t) es ts) (steps_in (cards_after (cards_behind cards e t) es ts) fs us))

-- ---- a step

-- these entries are told, from what is noted before them to what is noted behind
record IsStep (form : LogForm) (es : List Entry) (held : List (ℕ × Pending)) (cards : List Known) (cs : Counts) (tallies : List Tally) (losses : List Loss) (text : List ℕ) (bad : Bool) (next : Noted) : Type 0 where
  tellings : List Telling
  each : AreTellings form cards es tellings
  text_is : text ≡ texts tellings
  bad_is : bad ≡ some_bad tellings
  cards_are : next.cards ≡ cards_after cards es tellings
  counts_are : next.counts ≡ counts_after cs tellings
  tallies_are : next.tallies ≡ tallies_after tallies es tellings
  losses_are : next.losses ≡ losses_kept form losses (steps_in cards es tellings)
  held_is : next.pending ≡ held

-- none are told
no_step : (form : LogForm) (held : List (ℕ × Pending)) (ks : Noted) (text : List ℕ) (bad : Bool) (next : Noted) →
    text ≡ [] → bad ≡ false → next ≡ with_pending held ks →
    IsStep form [] held ks.cards ks.counts ks.tallies ks.losses text bad next
no_step form held ks text bad next e f g = record {
  tellings = [];
  each = tt;
  text_is = e;
  bad_is = f;
  cards_are = ap (λ (k : Noted). k.cards) g;
  counts_are = ap (λ (k : Noted). k.counts) g;
  tallies_are = ap (λ (k : Noted). k.tallies) g;
  losses_are = ap (λ (k : Noted). k.losses) g ∙ none_kept form ks.losses;
  held_is = ap (λ (k : Noted). k.pending) g;
}

two_steps : (form : LogForm) (es fs : List Entry) (held then : List (ℕ × Pending)) (cards : List Known) (cs : Counts) (tallies : List Tally) (losses : List Loss) (a b text : List ℕ) (c d bad : Bool) (mid next : Noted) →
    IsStep form es held cards cs tallies losses a c mid → IsStep form fs then mid.cards mid.counts mid.tallies mid.losses b d next →
    text ≡ a ++ b → bad ≡ (c || d) →
    IsStep form (es ++ fs) then cards cs tallies losses text bad next
two_steps form es fs held then cards cs tallies losses a b text c d bad mid next x y e f = record {
  tellings = x.tellings ++ y.tellings;
  each = each-append form cards es fs x.tellings y.tellings x.each (subst (λ (k : List Known). AreTellings form k fs y.tellings) x.cards_are y.each);
  text_is = e ∙ ap (λ (l : List ℕ). l ++ b) x.text_is ∙ ap (λ (l : List ℕ). texts x.tellings ++ l) y.text_is ∙ sym (texts-append x.tellings y.tellings);
  bad_is = f ∙ ap (λ (v : Bool). v || d) x.bad_is ∙ ap (λ (v : Bool). some_bad x.tellings || v) y.bad_is ∙ sym (bad-append x.tellings y.tellings);
  cards_are = y.cards_are ∙ ap (λ (k : List Known). cards_after k fs y.tellings) x.cards_are ∙ sym (cards-append form cards es fs x.tellings y.tellings x.each);
  counts_are = y.counts_are ∙ ap (λ (k : Counts). counts_after k y.tellings) x.counts_are ∙ sym (counts-append cs x.tellings y.tellings);
  tallies_are = y.tallies_are ∙ ap (λ (k : List Tally). tallies_after k fs y.tellings) x.tallies_are ∙ sym (tallies-append form cards tallies es fs x.tellings y.tellings x.each);
  losses_are =
      y.losses_are
      ∙ ap (λ (k : List Loss). losses_kept form k (steps_in mid.cards fs y.tellings)) x.losses_are
      ∙ ap (λ (k : List Known). losses_kept form (losses_kept form losses (steps_in cards es x.tellings)) (steps_in k fs y.tellings)) x.cards_are
      ∙ sym (kept-append form losses (steps_in cards es x.tellings) (steps_in (cards_after cards es x.tellings) fs y.tellings))
      ∙ ap (λ (ss : List Step). losses_kept form losses ss) (sym (steps-append form cards es fs x.tellings y.tellings x.each));
  held_is = y.held_is;
}

-- ---- a reset

abbrev IsRefusedSo : LogForm → ℕ → Option Known → Reset → List ℕ → Option Tree → Type 0
IsRefusedSo form number before r text heard =
    (f : CaptureFault) × CaptureRefused (standard_of form) (capture_by r.origin r.list) f
    × IsRefusedText form number before r f text × (heard ≡ None)

abbrev IsSpeltSo : LogForm → ℕ → Option Known → Reset → List ℕ → Option Tree → Type 0
IsSpeltSo form number before r text heard =
    (t : Tree) × Spells (standard_of form) (capture_by r.origin r.list) t
    × IsSpeltText form number before r t text × (heard ≡ Some t)

-- one more entry of one telling
one_step : (form : LogForm) (ks : Noted) (e : Entry) (t : Telling) (text : List ℕ) (bad : Bool) (next : Noted) →
    IsTelling form ks.cards e t → text ≡ t.text → bad ≡ (has_fault t.verdict || is_garbled t.verdict) →
    next.cards ≡ cards_behind ks.cards e t → next.counts ≡ counts_behind ks.counts t →
    next.tallies ≡ tallies_behind ks.tallies e t →
    next.losses ≡ losses_kept form ks.losses (steps_in ks.cards (e ∷ []) (t ∷ [])) → next.pending ≡ ks.pending →
    IsStep form (e ∷ []) ks.pending ks.cards ks.counts ks.tallies ks.losses text bad next
one_step form ks e t text bad next is said fault cards cs tallies losses held = record {
  tellings = t ∷ [];
  each = (is, tt);
  text_is = said ∙ sym (append-nil t.text);
  bad_is = fault ∙ or_none (has_fault t.verdict || is_garbled t.verdict);
  cards_are = cards;
  counts_are = cs;
  tallies_are = tallies;
  losses_are = losses;
  held_is = held;
}
  where
    or_none : (b : Bool) → b ≡ (b || false)
    or_none true = refl
    or_none false = refl

module _ (heard : ListsAreHeardAsRead) (unheard : ListsAreRefusedAsRead) where
  told_so : (standard : Standard) (number : ℕ) (before : Option Known) (r : Reset) (text : List ℕ) (found : Members) (h : Option Tree) → Fit r.list →
      text ≡ json_line (reset_value number before r found) → IsListTold standard r.origin r.list found h →
      IsRefusedSo (Json standard) number before r text h ⊎ IsSpeltSo (Json standard) number before r text h
  told_so standard number before r text found h fit e (told_refused f un is none) =
      inl (f, (unheard standard r.origin r.list f (all_fit r.list fit)).0 un, e ∙ ap (λ (m : Members). json_line (reset_value number before r m)) is, none)
  told_so standard number before r text found h fit e (told_heard t so is some) =
      inr (t, (heard standard r.origin r.list t (all_fit r.list fit)).0 so, e ∙ ap (λ (m : Members). json_line (reset_value number before r m)) is, some)

  judged_so : (form : LogForm) (number : ℕ) (before : Option Known) (r : Reset) (text : List ℕ) (h : Option Tree) → Fit r.list →
      IsJudged form number before r text h →
      IsRefusedSo form number before r text h ⊎ IsSpeltSo form number before r text h
  judged_so (Text standard) number before r text h fit (is_refused f un shown none) =
      inl (f, (unheard standard r.origin r.list f (all_fit r.list fit)).0 un, shown, none)
  judged_so (Text standard) number before r text h fit (is_heard t so shown some) =
      inr (t, (heard standard r.origin r.list t (all_fit r.list fit)).0 so, shown, some)
  judged_so (Short standard) number before r text h fit (short_refused f un shown none) =
      inl (f, (unheard standard r.origin r.list f (all_fit r.list fit)).0 un, shown, none)
  judged_so (Short standard) number before r text h fit (short_heard t so shown some) =
      inr (t, (heard standard r.origin r.list t (all_fit r.list fit)).0 so, shown, some)
  judged_so (Json standard) number before r text h fit x = told_so standard number before r text x.members h fit x.text_is x.told

  module _ (form : LogForm) (number lacks : ℕ) (ks : Noted) (r : Reset) (text : List ℕ) (bad : Bool) (next : Noted) where
    abbrev before : Option Known
    before = last_of r.card ks.cards

    abbrev of_verdict : Verdict → Telling
    of_verdict v = record { verdict = v; second = is_second before r; text = text }

    -- a reset that is kept
    kept : (v : Verdict) (h : Option Tree) (b : Bool) → IsVerdict (standard_of form) before lacks r v →
        IsVerdictText form number lacks before r v text → bad ≡ (has_fault v || is_garbled v) → next ≡ after form ks r h b →
        (after form ks r h b).cards ≡ cards_by r v ks.cards →
        (after form ks r h b).counts ≡ counts_behind ks.counts (of_verdict v) →
        (after form ks r h b).tallies ≡ tallies_by r.card v ks.tallies →
        steps_by r before v ≡ step_of r before h ∷ [] →
        IsStep form (a_reset number lacks r ∷ []) ks.pending ks.cards ks.counts ks.tallies ks.losses text bad next
    kept v h b is shown fault e cards cs tallies steps =
        one_step form ks (a_reset number lacks r) (of_verdict v) text bad next
        (record { verdict = is; second = refl; shown = shown }) refl fault
        (ap (λ (k : Noted). k.cards) e ∙ cards) (ap (λ (k : Noted). k.counts) e ∙ cs)
        (ap (λ (k : Noted). k.tallies) e ∙ tallies)
        (ap (λ (k : Noted). k.losses) e ∙ one_kept form r before h ks.losses
        ∙ ap (λ (ss : List Step). losses_kept form ks.losses (ss ++ [])) (sym steps))
        (ap (λ (k : Noted). k.pending) e)

    judged_step : (h : Option Tree) → IsWhole before lacks r → bad ≡ is_none h → next ≡ after form ks r h (is_none h) →
        IsRefusedSo form number before r text h ⊎ IsSpeltSo form number before r text h →
        IsStep form (a_reset number lacks r ∷ []) ks.pending ks.cards ks.counts ks.tallies ks.losses text bad next
    judged_step h whole e g (inl (f, is, shown, none)) =
        kept (refused f) None true (whole, is) shown (e ∙ ap (λ (t : Option Tree). is_none t) none)
        (g ∙ ap (λ (t : Option Tree). after form ks r t (is_none t)) none) refl refl refl refl
    judged_step h whole e g (inr (t, is, shown, some)) =
        kept (spelt t) (Some t) false (whole, is) shown (e ∙ ap (λ (u : Option Tree). is_none u) some)
        (g ∙ ap (λ (u : Option Tree). after form ks r u (is_none u)) some) refl refl refl refl

    reset_step : Fit r.list → IsResetShown form number lacks before ks r text bad next →
        IsStep form (a_reset number lacks r ∷ []) ks.pending ks.cards ks.counts ks.tallies ks.losses text bad next
    reset_step fit (is_passed_over rep e f g) =
        one_step form ks (a_reset number lacks r) (of_verdict passed_over) text bad next
        (record { verdict = rep; second = refl; shown = e }) refl f
        (ap (λ (k : Noted). k.cards) g) (ap (λ (k : Noted). k.counts) g)
        (ap (λ (k : Noted). k.tallies) g) (ap (λ (k : Noted). k.losses) g ∙ none_kept form ks.losses) (ap (λ (k : Noted). k.pending) g)
    reset_step fit (is_unjudged new err e f g) = kept failed None false (new, err) e f g refl refl refl refl
    reset_step fit (is_lacking new well some e f g) = kept lacking None false (new, well, some) e f g refl refl refl refl
    reset_step fit (is_judged h new well none shown e g) =
        judged_step h (record { fresh = new; fine = well; all = none }) e g (judged_so form number before r text h fit shown)

  -- ---- a line

  pending_step : (form : LogForm) (p : Option Pending) (ks : Noted) (text : List ℕ) (bad : Bool) (next : Noted) → IsFinePending p →
      IsPendingShown form p ks text bad next →
      IsStep form (entry_of p) ks.pending ks.cards ks.counts ks.tallies ks.losses text bad next
  pending_step form None ks text bad next fine x = no_step form ks.pending ks text bad next x.0 x.1 x.2
  pending_step form (Some p) ks text bad next fine x = reset_step form p.number p.left ks p.reset text bad next fine x

  whole_step : (form : LogForm) (whole : Bool) (p : Pending) (ks : Noted) (text : List ℕ) (bad : Bool) (next : Noted) → Fit p.reset.list →
      IsWholeShown form whole p ks text bad next →
      IsStep form (entry_if whole p) (waiting_if whole p ks.pending) ks.cards ks.counts ks.tallies ks.losses text bad next
  whole_step form false p ks text bad next fit x =
      no_step form (with_one p ks.pending) ks text bad next x.0 x.1 x.2
  whole_step form true p ks text bad next fit x =
      pending_step form (Some p) (ended p.reset.card ks) text bad next fit x

  begun_step : (form : LogForm) (number : ℕ) (ks : Noted) (b : Begun) (text : List ℕ) (bad : Bool) (next : Noted) → AreFine ks.pending →
      IsBegunShown form number ks b text bad next →
      IsStep form (entries_at number ks.pending (Begins b)) (waiting_at number ks.pending (Begins b)) ks.cards ks.counts ks.tallies ks.losses text bad next
  begun_step form number ks b text bad next fine x =
      let one = pending_step form (waits_of b.card ks) (ended b.card ks) x.first x.here x.mid (fine_found (is_at (nat_cmp b.card)) ks.pending fine) x.before in
      let two = whole_step form (b.count == 0) (begun_at number b) x.mid x.second x.later next tt x.begins in
      two_steps form (entry_of (waits b.card ks.pending)) (entry_if (b.count == 0) (begun_at number b)) (without b.card ks.pending) (waiting_if (b.count == 0) (begun_at number b) (without b.card ks.pending)) ks.cards ks.counts ks.tallies ks.losses x.first x.second text x.here x.later bad x.mid next one
      (subst (λ (o : List (ℕ × Pending)). IsStep form (entry_if (b.count == 0) (begun_at number b)) (waiting_if (b.count == 0) (begun_at number b) o) x.mid.cards x.mid.counts x.mid.tallies x.mid.losses x.second x.later next) one.held_is two)
      x.text_is x.bad_is

  packet_step : (form : LogForm) (p : Option Pending) (quad : ℕ) (ks : Noted) (text : List ℕ) (bad : Bool) (next : Noted) → IsFinePending p → quad < 2 ^ 32 →
      IsPacketShown form p quad ks text bad next →
      IsStep form (entry_by p quad) (waiting_by p quad ks.pending) ks.cards ks.counts ks.tallies ks.losses text bad next
  packet_step form None quad ks text bad next fine lt x = no_step form ks.pending ks text bad next x.0 x.1 x.2
  packet_step form (Some p) quad ks text bad next fine lt x =
      whole_step form ((with_packet quad p).left == 0) (with_packet quad p) ks text bad next (fit_push p.reset.list quad fine lt) x

  plain_step : (form : LogForm) (ks after : Noted) (e : Entry) (v : Verdict) (said text : List ℕ) (bad : Bool) (next : Noted) →
      IsTelling form ks.cards e (plain v said) → text ≡ said → bad ≡ (has_fault v || is_garbled v) → next ≡ after →
      after.cards ≡ cards_behind ks.cards e (plain v said) → after.counts ≡ counts_behind ks.counts (plain v said) →
      after.tallies ≡ tallies_behind ks.tallies e (plain v said) →
      after.losses ≡ losses_kept form ks.losses (steps_in ks.cards (e ∷ []) (plain v said ∷ [])) → after.pending ≡ ks.pending →
      IsStep form (e ∷ []) ks.pending ks.cards ks.counts ks.tallies ks.losses text bad next
  plain_step form ks after e v said text bad next is t f g cards cs tallies losses held =
      one_step form ks e (plain v said) text bad next is t f
      (ap (λ (k : Noted). k.cards) g ∙ cards) (ap (λ (k : Noted). k.counts) g ∙ cs)
      (ap (λ (k : Noted). k.tallies) g ∙ tallies) (ap (λ (k : Noted). k.losses) g ∙ losses)
      (ap (λ (k : Noted). k.pending) g ∙ held)

  shown_step : (form : LogForm) (number : ℕ) (ks : Noted) (line : LogLine) (text : List ℕ) (bad : Bool) (next : Noted) →
      ((r : Reset) → line ≡ OfReset r → Fit r.list) →
      ((card quad : ℕ) → line ≡ Packet card quad → quad < 2 ^ 32) → AreFine ks.pending →
      IsLogLineShown form number ks line text bad next →
      IsStep form (entries_at number ks.pending line) (waiting_at number ks.pending line) ks.cards ks.counts ks.tallies ks.losses text bad next
  shown_step form number ks Other text bad next f g fine x = no_step form ks.pending ks text bad next x.0 x.1 x.2
  shown_step form number ks Lost text bad next f g fine x =
      plain_step form ks (behind_loss ks) (a_loss number) no_reset (lost_text form number) text bad next refl x.0 x.1 x.2 refl refl refl (none_kept form ks.losses) refl
  shown_step form number ks (Said time words) text bad next f g fine x =
      plain_step form ks ks (a_saying number time words) no_reset (told_text form number time words) text bad next refl x.0 x.1 x.2 refl refl refl (none_kept form ks.losses) refl
  shown_step form number ks Garbled text bad next f g fine x =
      plain_step form ks ks (a_garble number) garbled (garbled_text form number) text bad next refl x.0 x.1 x.2 refl refl refl (none_kept form ks.losses) refl
  shown_step form number ks (Begins b) text bad next f g fine x = begun_step form number ks b text bad next fine x
  shown_step form number ks (Packet card quad) text bad next f g fine x =
      packet_step form (waits_of card ks) quad (ended card ks) text bad next (fine_found (is_at (nat_cmp card)) ks.pending fine) (g card quad refl) x
  shown_step form number ks (OfReset r) text bad next f g fine x =
      reset_step form number 0 ks r text bad next (f r refl) x

  -- ---- lines

  fine_if : (whole : Bool) (p : Pending) (held : List (ℕ × Pending)) → Fit p.reset.list → AreFine held →
      AreFine (waiting_if whole p held)
  fine_if false p held fit fine =
      fine_with p.reset.card p (without p.reset.card held) fit (fine_without (is_at (nat_cmp p.reset.card)) held fine)
  fine_if true p held fit fine = fine_without (is_at (nat_cmp p.reset.card)) held fine

  fine_by : (p : Option Pending) (quad : ℕ) (held : List (ℕ × Pending)) → IsFinePending p → quad < 2 ^ 32 → AreFine held →
      AreFine (waiting_by p quad held)
  fine_by None quad held is lt fine = fine
  fine_by (Some p) quad held is lt fine =
      fine_if ((with_packet quad p).left == 0) (with_packet quad p) held (fit_push p.reset.list quad is lt) fine

  fine_at : (number : ℕ) (held : List (ℕ × Pending)) (line : LogLine) →
      ((card quad : ℕ) → line ≡ Packet card quad → quad < 2 ^ 32) → AreFine held →
      AreFine (waiting_at number held line)
  fine_at number held Other g fine = fine
  fine_at number held Lost g fine = fine
  fine_at number held (Said time words) g fine = fine
  fine_at number held Garbled g fine = fine
  fine_at number held (OfReset r) g fine = fine
  fine_at number held (Begins b) g fine =
      fine_if (b.count == 0) (begun_at number b) (without b.card held) tt (fine_without (is_at (nat_cmp b.card)) held fine)
  fine_at number held (Packet card quad) g fine =
      fine_by (waits card held) quad (without card held) (fine_found (is_at (nat_cmp card)) held fine) (g card quad refl) (fine_without (is_at (nat_cmp card)) held fine)

  steps : (form : LogForm) (number : ℕ) (ks : Noted) (lines : List (List ℕ)) (text : List ℕ) (bad : Bool) (next : Noted) → AreFine ks.pending →
      AreTold (IsLineShown form) number ks lines text bad next →
      IsStep form (entries_from number ks.pending lines) (waiting_behind number ks.pending lines) ks.cards ks.counts ks.tallies ks.losses text bad next
  steps form number ks [] text bad next fine x = no_step form ks.pending ks text bad next x.0 x.1 x.2
  steps form number ks (line ∷ lines) text bad next fine x =
      let mid : Noted = x.4 in
      let held : List (ℕ × Pending) = waiting_at number ks.pending (line_of line) in
      let one = shown_step form number ks (line_of line) x.0 x.2 mid (line_fits line) (line_packet_fits line) fine x.5 in
      let later = steps form (number + 1) mid lines x.1 x.3 next (subst AreFine (sym one.held_is) (fine_at number ks.pending (line_of line) (line_packet_fits line) fine)) x.6 in
      two_steps form (entries_at number ks.pending (line_of line)) (entries_from (number + 1) held lines) held (waiting_behind (number + 1) held lines) ks.cards ks.counts ks.tallies ks.losses x.0 x.1 text x.2 x.3 bad mid next one
      (subst (λ (o : List (ℕ × Pending)). IsStep form (entries_from (number + 1) o lines) (waiting_behind (number + 1) o lines) mid.cards mid.counts mid.tallies mid.losses x.1 x.3 next) one.held_is later)
      x.7 x.8

-- ---- totals

resets_by : (v : Verdict) (s : Bool) (c : Counts) →
    (cond (is_shown v) (counted s (has_fault v) c) c).resets ≡ cond (is_shown v && not s) (next_count c.resets) c.resets
resets_by passed_over s c = refl
resets_by failed true c = refl
resets_by failed false c = refl
resets_by lacking true c = refl
resets_by lacking false c = refl
resets_by (spelt t) true c = refl
resets_by (spelt t) false c = refl
resets_by (refused f) true c = refl
resets_by (refused f) false c = refl
resets_by garbled s c = refl
resets_by no_reset s c = refl

refused_by : (v : Verdict) (s : Bool) (c : Counts) →
    (cond (is_shown v) (counted s (has_fault v) c) c).refused ≡ cond (has_fault v) (next_count c.refused) c.refused
refused_by passed_over s c = refl
refused_by failed s c = refl
refused_by lacking s c = refl
refused_by (spelt t) s c = refl
refused_by (refused f) s c = refl
refused_by garbled s c = refl
refused_by no_reset s c = refl

pub in_order : ListsAreHeardAsRead → ListsAreRefusedAsRead → LossesAreCounted → ShortestIsKept → LogsAreToldInOrder
in_order heard unheard counts_them keeps_them form log text bad x =
    let s = steps heard unheard form 1 nothing (lines_of log) x.told bad x.known tt x.shown in
    record {
      tellings = s.tellings;
      known = x.known;
      each = s.each;
      text_is = x.text_is ∙ ap (λ (l : List ℕ). l ++ totals_text form x.known) s.text_is;
      bad_is = s.bad_is;
      resets_are = ap (λ (c : Counts). c.resets) s.counts_are ∙ counted_in counts_behind (λ c. c.resets) counts (λ c t. resets_by t.verdict t.second c) nothing.counts s.tellings (omega arith) ∙ ap capped (how_many_count counts s.tellings);
      refused_are = ap (λ (c : Counts). c.refused) s.counts_are ∙ counted_in counts_behind (λ c. c.refused) refuses (λ c t. refused_by t.verdict t.second c) nothing.counts s.tellings (omega arith) ∙ ap capped (how_many_count refuses s.tellings);
      cards_are = s.cards_are;
      tallies_are = s.tallies_are;
      losses_are = ap (λ (ls : List Loss). map count_of ls) s.losses_are ∙ all_kept form counts_them [] (entries_from 1 [] (lines_of log)) s.tellings;
      shortest_are =
          let ss : List Step = steps_in [] (entries_from 1 [] (lines_of log)) s.tellings in
          subst (λ (ls : List Loss). All (IsShortest ss) ls) (sym s.losses_are) (all_shortest form keeps_them ss);
      cut_off = s.held_is;
    }

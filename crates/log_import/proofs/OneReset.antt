-- A log has one answer to the question for its reset with a number.
use Rattle.std.proofs.Common.{◌≡◌, ◌∙◌, ℕ, ◌+◌, ◌<◌, Bool, true, cond, Option, List, [], ◌∷◌, ◌++◌, refl, sym, ap, subst, arith}
use Rattle.std.specs.Prelude.{◌==◌, count_by}
use Rattle.std.proofs.lemmas.Bool.{both_ways}
use Rattle.std.proofs.lemmas.List.Sums.{sum_by-append}
use Rattle.self_id.specs.declared.standard.Standard.TheVariants.{Ieee2000}
use Rattle.topology_stack.specs.Tree.{Tree}
use Rattle.capture_reading.specs.declared.fault.CaptureFault.{CaptureFault}
use Rattle.capture_reading.specs.OneReading.{NoCaptureHasTwoTrees, NoCaptureHasATreeAndAFault, NoCaptureHasTwoFaults}
use Rattle.log_line.specs.declared.line.Reset.{Reset}
use Rattle.reset_list.specs.Judged.{capture_by}
use Rattle.reset_log.specs.declared.cards.Known.{Known}
use Rattle.reset_log.specs.declared.notes.Pending.{Pending}
use Rattle.reset_log.specs.Log.{lines_of}
use Rattle.reset_log.specs.Noted.{last_of}
use Rattle.reset_log.specs.Entries.{Entry, a_reset, a_loss, a_saying, a_garble, entries_of}
use Rattle.reset_log.specs.Told.{Verdict, passed_over, failed, lacking, spelt, refused, garbled, no_reset, Telling, IsVerdict, IsVerdictText, IsResetTelling, IsTelling, AreTellings, cards_behind, cards_after, counts}
use Rattle.log_import.specs.Reset.{form, entry, IsNth, HasFewer}
use Rattle.log_import.specs.Import.{packets_missing, IsSearch, IsWritten, IsSearchWritten}
use Rattle.log_import.specs.OneReset.{NoLogHasTwoAnswers}
use Rattle.log_import.specs.declared.outcome.Place.{Place}
use Rattle.log_import.specs.declared.outcome.Outcome.{Outcome}
use Rattle.log_import.specs.declared.outcome.Outcome.TheVariants.{Written, TooFew, IsError, PacketsMissing}
use Rattle.log_import.specs.declared.finder.Search.{Search}
use Rattle.log_import.specs.declared.finder.Search.TheVariants.{Found, Fewer}

-- a capture has one reading
pub record OneReading : Type 0 where
  pub tree : NoCaptureHasTwoTrees
  pub apart : NoCaptureHasATreeAndAFault
  pub fault : NoCaptureHasTwoFaults

-- ---- a telling has one text, and is counted or not

same_text : (number lacks : ℕ) (before : Option Known) (r : Reset) (v : Verdict) (a b : List ℕ) →
    IsVerdictText form number lacks before r v a → IsVerdictText form number lacks before r v b → a ≡ b
same_text number lacks before r passed_over a b x y = x ∙ sym y
same_text number lacks before r failed a b x y = x ∙ sym y
same_text number lacks before r lacking a b x y = x ∙ sym y
same_text number lacks before r (spelt t) a b x y = x ∙ sym y
same_text number lacks before r (refused f) a b x y = x ∙ sym y
same_text number lacks before r garbled a b x y = absurd x
same_text number lacks before r no_reset a b x y = absurd x

abbrev of : Verdict → Bool → List ℕ → Telling
of verdict second text = record { verdict = verdict; second = second; text = text }

-- how many are counted: the first of them, and the others
count_first : (t : Telling) (ts : List Telling) → count_by counts (t ∷ ts) ≡ cond (counts t) 1 0 + count_by counts ts
count_first t ts = omega (arith, sum_by-append (λ (u : Telling). cond (counts u) 1 0) (t ∷ []) ts)

some_counted : (t : Telling) (ts : List Telling) → counts t ≡ true → 0 < count_by counts (t ∷ ts)
some_counted t ts is =
    let one : cond (counts t) 1 0 ≡ 1 = ap (λ (b : Bool). cond {A = ℕ} b 1 0) is in
    omega (arith, count_first t ts, one)

-- ---- what is written of a search

made : ℕ → ℕ → Reset → Pending
made number left r = record { number = number; left = left; reset = r }

same_pending : (p q : Pending) → entry p ≡ entry q → p ≡ q
unfolding made
same_pending p q same =
    let number : p.number ≡ q.number = cc in
    let left : p.left ≡ q.left = cc in
    let reset : p.reset ≡ q.reset = cc in
    ap (λ (n : ℕ). made n p.left p.reset) number ∙ ap (λ (n : ℕ). made q.number n p.reset) left
    ∙ ap (λ (r : Reset). made q.number q.left r) reset

same_written : (p : Pending) (a b : List ℕ) (c d : Outcome) → IsWritten p a c → IsWritten p b d → (a ≡ b) × (c ≡ d)
same_written p a b (TooFew n) d x y = absurd x
same_written p a b c (TooFew n) x y = absurd y
same_written p a b (Written at) (Written to) x y = (x.3 ∙ sym y.3, ap (λ (l : Place). Written l) (x.2 ∙ sym y.2))
same_written p a b (Written at) (IsError to) x y = absurd (both_ways p.reset.is_error x.0 y.0)
same_written p a b (Written at) (PacketsMissing to m) x y = absurd (both_ways (p.left == 0) y.1 x.1)
same_written p a b (IsError at) (Written to) x y = absurd (both_ways p.reset.is_error y.0 x.0)
same_written p a b (IsError at) (IsError to) x y = (x.2 ∙ sym y.2, ap (λ (l : Place). IsError l) (x.1 ∙ sym y.1))
same_written p a b (IsError at) (PacketsMissing to m) x y = absurd (both_ways p.reset.is_error y.0 x.0)
same_written p a b (PacketsMissing at n) (Written to) x y = absurd (both_ways (p.left == 0) x.1 y.1)
same_written p a b (PacketsMissing at n) (IsError to) x y = absurd (both_ways p.reset.is_error x.0 y.0)
same_written p a b (PacketsMissing at n) (PacketsMissing to m) x y =
    let count : n ≡ m = x.3 ∙ sym y.3 in (
      x.4 ∙ ap (λ (k : ℕ). packets_missing p.number k) count ∙ sym y.4,
      ap (λ (l : Place). PacketsMissing l n) (x.2 ∙ sym y.2) ∙ ap (λ (k : ℕ). PacketsMissing to k) count,
    )

same_answer : (k : ℕ) (s : Search) (a b : List ℕ) (c d : Outcome) → IsSearchWritten k s a c → IsSearchWritten k s b d →
    (a ≡ b) × (c ≡ d)
same_answer k (Found p) a b c d x y = same_written p a b c d x y
same_answer k (Fewer n) a b c d x y = (x.1 ∙ sym y.1, x.0 ∙ sym y.0)

module _ (one : OneReading) where
  -- ---- an entry is told as one thing

  same_verdict : (before : Option Known) (lacks : ℕ) (r : Reset) (v w : Verdict) → IsVerdict Ieee2000 before lacks r v →
      IsVerdict Ieee2000 before lacks r w → v ≡ w
  same_verdict before lacks r garbled w x y = absurd x
  same_verdict before lacks r no_reset w x y = absurd x
  same_verdict before lacks r v garbled x y = absurd y
  same_verdict before lacks r v no_reset x y = absurd y
  same_verdict before lacks r passed_over passed_over x y = refl
  same_verdict before lacks r failed failed x y = refl
  same_verdict before lacks r lacking lacking x y = refl
  same_verdict before lacks r (spelt t) (spelt u) x y =
      ap (λ (w : Tree). spelt w) (one.tree Ieee2000 (capture_by r.origin r.list) t u x.1 y.1)
  same_verdict before lacks r (spelt t) (refused g) x y = absurd (one.apart Ieee2000 (capture_by r.origin r.list) t g x.1 y.1)
  same_verdict before lacks r (refused f) (spelt u) x y = absurd (one.apart Ieee2000 (capture_by r.origin r.list) u f y.1 x.1)
  same_verdict before lacks r (refused f) (refused g) x y =
      ap (λ (h : CaptureFault). refused h) (one.fault Ieee2000 (capture_by r.origin r.list) f g x.1 y.1)
  -- others say of one test that it is true and false
  same_verdict before lacks r v w x y = cc

  same_reset : (number lacks : ℕ) (before : Option Known) (r : Reset) (t u : Telling) →
      IsResetTelling form number lacks before r t → IsResetTelling form number lacks before r u → t ≡ u
  same_reset number lacks before r t u x y =
      let judged : t.verdict ≡ u.verdict = same_verdict before lacks r t.verdict u.verdict x.verdict y.verdict in
      let shown = subst (λ (v : Verdict). IsVerdictText form number lacks before r v t.text) judged x.shown in
      ap (λ (v : Verdict). of v t.second t.text) judged
      ∙ ap (λ (b : Bool). of u.verdict b t.text) (x.second ∙ sym y.second)
      ∙ ap (λ (l : List ℕ). of u.verdict u.second l) (same_text number lacks before r u.verdict t.text u.text shown y.shown)

  same_telling : (cards : List Known) (e : Entry) (t u : Telling) → IsTelling form cards e t → IsTelling form cards e u → t ≡ u
  same_telling cards (a_reset number lacks r) t u x y = same_reset number lacks (last_of r.card cards) r t u x y
  same_telling cards (a_loss number) t u x y = x ∙ sym y
  same_telling cards (a_saying number time words) t u x y = x ∙ sym y
  same_telling cards (a_garble number) t u x y = x ∙ sym y

  same_tellings : (cards : List Known) (es : List Entry) (ts us : List Telling) → AreTellings form cards es ts →
      AreTellings form cards es us → ts ≡ us
  same_tellings cards [] [] [] x y = refl
  same_tellings cards [] [] (u ∷ us) x y = absurd y
  same_tellings cards [] (t ∷ ts) us x y = absurd x
  same_tellings cards (e ∷ es) [] us x y = absurd x
  same_tellings cards (e ∷ es) (t ∷ ts) [] x y = absurd y
  same_tellings cards (e ∷ es) (t ∷ ts) (u ∷ us) x y =
      let first : t ≡ u = same_telling cards e t u x.0 y.0 in
      let told = subst (λ (v : Telling). AreTellings form (cards_behind cards e v) es ts) first x.1 in
      let rest : ts ≡ us = same_tellings (cards_behind cards e u) es ts us told y.1 in
      cc

  -- ---- the resets that are counted

  -- one that is counted is counted among all of them, behind those before it
  counted_among : (cards : List Known) (es behind : List Entry) (p : Pending) (ts us : List Telling) (t : Telling) →
      AreTellings form cards es ts → IsTelling form (cards_after cards es ts) (entry p) t → counts t ≡ true →
      AreTellings form cards (es ++ entry p ∷ behind) us → count_by counts ts < count_by counts us
  counted_among cards [] behind p [] [] t x is counted y = absurd y
  counted_among cards [] behind p [] (u ∷ us) t x is counted y =
      let same : t ≡ u = same_telling cards (entry p) t u is y.0 in
      some_counted u us (subst (λ (v : Telling). counts v ≡ true) same counted)
  counted_among cards [] behind p (a ∷ ts) us t x is counted y = absurd x
  counted_among cards (e ∷ es) behind p [] us t x is counted y = absurd x
  counted_among cards (e ∷ es) behind p (a ∷ ts) [] t x is counted y = absurd y
  counted_among cards (e ∷ es) behind p (a ∷ ts) (b ∷ us) t x is counted y =
      let same : b ≡ a = same_telling cards e b a y.0 x.0 in
      let told = subst (λ (v : Telling). AreTellings form (cards_behind cards e v) (es ++ entry p ∷ behind) us) same y.1 in
      let more : count_by counts ts < count_by counts us =
      counted_among (cards_behind cards e a) es behind p ts us t x.1 is counted told in
      omega (arith, count_first a ts, count_first b us, ap (λ (v : Telling). cond {A = ℕ} (counts v) 1 0) same, more)

  -- two that are counted behind as many are one
  same_place : (cards : List Known) (es fs behind later : List Entry) (p q : Pending) (ts us : List Telling) (t u : Telling) →
      es ++ entry p ∷ behind ≡ fs ++ entry q ∷ later → AreTellings form cards es ts → AreTellings form cards fs us →
      IsTelling form (cards_after cards es ts) (entry p) t → IsTelling form (cards_after cards fs us) (entry q) u →
      counts t ≡ true → counts u ≡ true → count_by counts ts ≡ count_by counts us → entry p ≡ entry q
  same_place cards [] [] behind later p q ts us t u all x y v w c d many = cc
  same_place cards [] (f ∷ fs) behind later p q ts [] t u all x y v w c d many = absurd y
  same_place cards [] (f ∷ fs) behind later p q (a ∷ ts) (b ∷ us) t u all x y v w c d many = absurd x
  same_place cards [] (f ∷ fs) behind later p q [] (b ∷ us) t u all x y v w c d many =
      let first : entry p ≡ f = cc in
      let same : t ≡ b = same_telling cards f t b (subst (λ (g : Entry). IsTelling form cards g t) first v) y.0 in
      let some = some_counted b us (subst (λ (s : Telling). counts s ≡ true) same c) in
      absurd (omega (arith, many, some))
  same_place cards (e ∷ es) [] behind later p q [] us t u all x y v w c d many = absurd x
  same_place cards (e ∷ es) [] behind later p q (a ∷ ts) (b ∷ us) t u all x y v w c d many = absurd y
  same_place cards (e ∷ es) [] behind later p q (a ∷ ts) [] t u all x y v w c d many =
      let first : entry q ≡ e = cc in
      let same : u ≡ a = same_telling cards e u a (subst (λ (g : Entry). IsTelling form cards g u) first w) x.0 in
      let some = some_counted a ts (subst (λ (s : Telling). counts s ≡ true) same d) in
      absurd (omega (arith, many, some))
  same_place cards (e ∷ es) (f ∷ fs) behind later p q [] us t u all x y v w c d many = absurd x
  same_place cards (e ∷ es) (f ∷ fs) behind later p q (a ∷ ts) [] t u all x y v w c d many = absurd y
  same_place cards (e ∷ es) (f ∷ fs) behind later p q (a ∷ ts) (b ∷ us) t u all x y v w c d many =
      let first : e ≡ f = cc in
      let rest : es ++ entry p ∷ behind ≡ fs ++ entry q ∷ later = cc in
      let same : a ≡ b = same_telling cards f a b (subst (λ (g : Entry). IsTelling form cards g a) first x.0) y.0 in
      let cards_are : cards_behind cards e a ≡ cards_behind cards f b =
      ap (λ (g : Entry). cards_behind cards g a) first ∙ ap (λ (s : Telling). cards_behind cards f s) same in
      let counted : count_by counts ts ≡ count_by counts us =
      omega (arith, many, count_first a ts, count_first b us, ap (λ (s : Telling). cond {A = ℕ} (counts s) 1 0) same) in
      same_place (cards_behind cards f b) es fs behind later p q ts us t u rest
      (subst (λ (ks : List Known). AreTellings form ks es ts) cards_are x.1) y.1
      (subst (λ (ks : List Known). IsTelling form (cards_after ks es ts) (entry p) t) cards_are v) w c d counted

  -- ---- what a search comes to

  same_nth : (k : ℕ) (es : List Entry) (p q : Pending) → IsNth k es p → IsNth k es q → p ≡ q
  same_nth k es p q x y =
      let many : count_by counts x.tellings ≡ count_by counts y.tellings = omega (arith, x.number_is, y.number_is) in
      same_pending p q
      (same_place [] x.before y.before x.behind y.behind p q x.tellings y.tellings x.telling y.telling
      (sym x.entries_are ∙ y.entries_are) x.told y.told x.tells y.tells x.is_counted y.is_counted many)

  nth_apart : (k : ℕ) (es : List Entry) (p : Pending) (n : ℕ) → IsNth k es p → HasFewer k es n → ⊥
  nth_apart k es p n x y =
      let told = subst (λ (l : List Entry). AreTellings form [] l y.tellings) x.entries_are y.told in
      let more = counted_among [] x.before x.behind p x.tellings y.tellings x.telling x.told x.tells x.is_counted told in
      omega (arith, x.number_is, y.count_is, y.fewer, more)

  same_fewer : (k : ℕ) (es : List Entry) (n m : ℕ) → HasFewer k es n → HasFewer k es m → n ≡ m
  same_fewer k es n m x y =
      x.count_is
      ∙ ap (λ (ts : List Telling). count_by counts ts) (same_tellings [] es x.tellings y.tellings x.told y.told)
      ∙ sym y.count_is

  same_search : (k : ℕ) (log : List ℕ) (s r : Search) → IsSearch k log s → IsSearch k log r → s ≡ r
  same_search k log (Found p) (Found q) x y = ap (λ (w : Pending). Found w) (same_nth k (entries_of (lines_of log)) p q x y)
  same_search k log (Found p) (Fewer n) x y = absurd (nth_apart k (entries_of (lines_of log)) p n x y)
  same_search k log (Fewer n) (Found p) x y = absurd (nth_apart k (entries_of (lines_of log)) p n y x)
  same_search k log (Fewer n) (Fewer m) x y = ap (λ (w : ℕ). Fewer w) (same_fewer k (entries_of (lines_of log)) n m x y)

  pub one_answer : NoLogHasTwoAnswers
  one_answer k log a b c d (s, is, x) (r, too, y) =
      let same : s ≡ r = same_search k log s r is too in
      same_answer k r a b c d (subst (λ (w : Search). IsSearchWritten k w a c) same x) y

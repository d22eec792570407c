-- A log is searched entry by entry, in order.
use Rattle.std.proofs.Common.{◌≡◌, ◌∙◌, ℕ, ◌+◌, ◌<◌, Bool, true, false, cond, Option, Some, None, Result, Ok, Err, List, [], ◌∷◌, ◌++◌, length, refl, sym, ap, subst, append_assoc, append-nil, arith}
use Rattle.std.specs.Prelude.{◌&&◌, not, count_by, if◌then◌else◌, option_map, IfOk}
use Rattle.std.proofs.lemmas.List.Sums.{sum_by-append}
use Rattle.std.specs.BTreeMap.{get, Updates}
use Rattle.std.specs.Ordering.{nat_cmp}
use Rattle.reset_log.specs.declared.cards.Known.{Known}
use Rattle.reset_log.specs.declared.notes.Pending.{Pending}
use Rattle.reset_log.specs.Log.{lines_of}
use Rattle.reset_log.specs.Noted.{last_of, is_second, is_repeated, forgotten}
use Rattle.reset_log.specs.Entries.{Entry, a_loss, a_saying, a_garble, entries_of, entries_from}
use Rattle.reset_log.specs.Shown.{garbled_text, lost_text, told_text}
use Rattle.reset_log.specs.Told.{passed_over, garbled, no_reset, Telling, IsTelling, AreTellings, plain as of_none, cards_behind, cards_after, counts}
use Rattle.log_import.specs.Reset.{form, entry, IsNth, HasFewer}
use Rattle.log_import.specs.codings.Standing.{plain, Stands, Advances, Searches}
use Rattle.log_import.specs.codings.Verdicts.{IsJudged}
use Rattle.log_import.specs.declared.judge.Judge.{Judge}
use Rattle.log_import.specs.declared.finder.Finder.{Finder}
use Rattle.log_import.proofs.Last.{AreLast, last_kept, last_lost, second_forgotten, repeated_forgotten}
use Rattle.log_import.proofs.Judged.{IsTold, told}

-- ---- one entry more

each_more : (cards : List Known) (es : List Entry) (ts : List Telling) (e : Entry) (t : Telling) → AreTellings form cards es ts →
    IsTelling form (cards_after cards es ts) e t → AreTellings form cards (es ++ e ∷ []) (ts ++ t ∷ [])
each_more cards [] [] e t each is = (is, tt)
each_more cards [] (u ∷ ts) e t each is = absurd each
each_more cards (d ∷ es) [] e t each is = absurd each
each_more cards (d ∷ es) (u ∷ ts) e t each is = (each.0, each_more (cards_behind cards d u) es ts e t each.1 is)

cards_more : (cards : List Known) (es : List Entry) (ts : List Telling) (e : Entry) (t : Telling) → AreTellings form cards es ts →
    cards_after cards (es ++ e ∷ []) (ts ++ t ∷ []) ≡ cards_behind (cards_after cards es ts) e t
cards_more cards [] [] e t each = refl
cards_more cards [] (u ∷ ts) e t each = absurd each
cards_more cards (d ∷ es) [] e t each = absurd each
cards_more cards (d ∷ es) (u ∷ ts) e t each = cards_more (cards_behind cards d u) es ts e t each.1

count_more : (ts : List Telling) (t : Telling) → count_by counts (ts ++ t ∷ []) ≡ count_by counts ts + cond (counts t) 1 0
count_more ts t = omega (arith, sum_by-append (λ (u : Telling). cond (counts u) 1 0) ts (t ∷ []))

-- behind an entry, where this is told of it
step : (old new : Judge) (done : List Entry) (e : Entry) (t : Telling) (s : Stands old done) →
    IsTelling form (cards_after [] done s.tellings) e t →
    AreLast new.last (cards_behind (cards_after [] done s.tellings) e t) →
    new.counted ≡ old.counted + cond (counts t) 1 0 → new.counted < new.wanted → Stands new (done ++ e ∷ [])
step old new done e t s is known count below = record {
  tellings = s.tellings ++ t ∷ [];
  told = each_more [] done s.tellings e t s.told is;
  known = λ c. known c ∙ ap (λ (ks : List Known). option_map forgotten (last_of c ks)) (sym (cards_more [] done s.tellings e t s.told));
  counted_is = count ∙ ap (λ (n : ℕ). n + cond (counts t) 1 0) s.counted_is ∙ sym (count_more s.tellings t);
  below = below;
}

-- ---- a reset

module _ (p : Pending) (before : Option Known) (old : Judge) (same : before ≡ get nat_cmp old.last p.reset.card) where
  -- the card's last reset
  abbrev real : (done : List Entry) → Stands old done → Option Known
  real done s = last_of p.reset.card (cards_after [] done s.tellings)

  repeated_is : (done : List Entry) (s : Stands old done) → is_repeated before p.reset ≡ is_repeated (real done s) p.reset
  repeated_is done s =
      ap (λ (b : Option Known). is_repeated b p.reset) (same ∙ s.known p.reset.card) ∙ repeated_forgotten (real done s) p.reset

  second_is : (done : List Entry) (s : Stands old done) → is_second before p.reset ≡ is_second (real done s) p.reset
  second_is done s =
      ap (λ (b : Option Known). is_second b p.reset) (same ∙ s.known p.reset.card) ∙ second_forgotten (real done s) p.reset

  -- it is passed over
  pub passed : is_repeated before p.reset ≡ true → Advances old old (entry p ∷ []) None
  passed repeated = (
    refl,
    λ done s. step old old done (entry p) (record { verdict = passed_over; second = is_second (real done s) p.reset; text = [] }) s
        (record { verdict = sym (repeated_is done s) ∙ repeated; second = refl; shown = refl }) s.known (omega arith) s.below,
  )

  module _ (heard : Bool) (fresh : is_repeated before p.reset ≡ false) (judged : IsJudged p heard) where
    this : (done : List Entry) (s : Stands old done) → IsTold p (real done s) heard
    this done s = told p (real done s) heard (sym (repeated_is done s) ∙ fresh) judged

    -- it is counted unless it is the last one by its other event
    counts_is : (done : List Entry) (s : Stands old done) → counts (this done s).telling ≡ not (is_second before p.reset)
    counts_is done s =
        let t = this done s in
        ap (λ (b : Bool). b && not t.telling.second) t.shown
        ∙ ap (λ (b : Bool). not b) (t.tells.second ∙ sym (second_is done s))

    -- another one is wanted
    pub kept : (new : Judge) → Updates nat_cmp old.last new.last p.reset.card (Some (plain p.reset heard)) →
        new.wanted ≡ old.wanted → new.counted ≡ old.counted + cond (not (is_second before p.reset)) 1 0 →
        new.counted < new.wanted → Advances old new (entry p ∷ []) None
    kept new up wanted count below = (
      wanted,
      λ done s.
          let t = this done s in
          let known : AreLast new.last (cards_behind (cards_after [] done s.tellings) (entry p) t.telling) =
          subst (λ (ks : List Known). AreLast new.last ks) (sym (t.cards_are (cards_after [] done s.tellings)))
          (last_kept old.last new.last (cards_after [] done s.tellings) p.reset t.heard s.known
          (subst (λ (b : Bool). Updates nat_cmp old.last new.last p.reset.card (Some (plain p.reset b))) (sym t.heard_is) up)) in
          step old new done (entry p) t.telling s t.tells known
          (count ∙ ap (λ (b : Bool). old.counted + cond b 1 0) (sym (counts_is done s))) below,
    )

    -- it is the one that is wanted
    pub hit : (new : Judge) → is_second before p.reset ≡ false → old.wanted ≡ old.counted + 1 → Advances old new (entry p ∷ []) (Some p)
    hit new first wanted = λ done s.
        let t = this done s in
        record {
          before = done;
          behind = [];
          entries_are = refl;
          tellings = s.tellings;
          told = s.told;
          telling = t.telling;
          tells = t.tells;
          is_counted = counts_is done s ∙ ap (λ (b : Bool). not b) first;
          number_is = wanted ∙ ap (λ (n : ℕ). n + 1) s.counted_is;
        }

    pub counted : (new : Judge) (found : Bool) → Updates nat_cmp old.last new.last p.reset.card (Some (plain p.reset heard)) →
        is_second before p.reset ≡ false → new.wanted ≡ old.wanted →
        (found ≡ true → old.wanted ≡ old.counted + 1) →
        (found ≡ false → (new.counted ≡ old.counted + 1) × (new.counted < new.wanted)) →
        Advances old new (entry p ∷ []) (if found then Some p else None)
    counted new true up first wanted is more = hit new first (is refl)
    counted new false up first wanted is more =
        kept new up wanted ((more refl).0 ∙ ap (λ (b : Bool). old.counted + cond (not b) 1 0) (sym first)) (more refl).1

    pub second : (new : Judge) → Updates nat_cmp old.last new.last p.reset.card (Some (plain p.reset heard)) →
        is_second before p.reset ≡ true → new.wanted ≡ old.wanted → new.counted ≡ old.counted → old.counted < old.wanted →
        Advances old new (entry p ∷ []) None
    second new up is wanted count below =
        kept new up wanted
        (count ∙ omega arith ∙ ap (λ (b : Bool). old.counted + cond (not b) 1 0) (sym is))
        (omega (arith, wanted, count, below))

-- ---- other entries

plain_step : (j : Judge) (e : Entry) (t : Telling) → counts t ≡ false →
    ((cards : List Known) → IsTelling form cards e t) →
    ((cards : List Known) → AreLast j.last cards → AreLast j.last (cards_behind cards e t)) → Advances j j (e ∷ []) None
plain_step j e t none is known = (
  refl,
  λ done s.
      let cards = cards_after [] done s.tellings in
      step j j done e t s (is cards) (known cards s.known)
      (omega arith ∙ ap (λ (b : Bool). j.counted + cond b 1 0) (sym none)) s.below,
)

pub lost : (j : Judge) (number : ℕ) → Advances j j (a_loss number ∷ []) None
lost j number = plain_step j (a_loss number) (of_none no_reset (lost_text form number)) refl (λ cards. refl) (λ cards are. last_lost j.last cards are)

pub said : (j : Judge) (number : ℕ) (time : Option ℕ) (words : List ℕ) → Advances j j (a_saying number time words ∷ []) None
said j number time words = plain_step j (a_saying number time words) (of_none no_reset (told_text form number time words)) refl (λ cards. refl) (λ cards are. are)

pub is_garbled : (j : Judge) (number : ℕ) → Advances j j (a_garble number ∷ []) None
is_garbled j number = plain_step j (a_garble number) (of_none garbled (garbled_text form number)) refl (λ cards. refl) (λ cards are. are)

pub nothing : (j : Judge) → Advances j j [] None
nothing j = (refl, λ done s. subst (λ (es : List Entry). Stands j es) (sym (append-nil done)) s)

-- ---- entries in two parts

-- one that was found is found, whatever comes behind
more_behind : (k : ℕ) (es fs : List Entry) (p : Pending) → IsNth k es p → IsNth k (es ++ fs) p
more_behind k es fs p x = record {
  before = x.before;
  behind = x.behind ++ fs;
  entries_are = ap (λ (l : List Entry). l ++ fs) x.entries_are ∙ append_assoc x.before (entry p ∷ x.behind) fs;
  tellings = x.tellings;
  told = x.told;
  telling = x.telling;
  tells = x.tells;
  is_counted = x.is_counted;
  number_is = x.number_is;
}

pub found_first : (a b c : Judge) (es fs : List Entry) (p : Pending) → Advances a b es (Some p) → Advances a c (es ++ fs) (Some p)
found_first a b c es fs p x = λ done s.
    subst (λ (l : List Entry). IsNth a.wanted l p) (append_assoc done es fs) (more_behind a.wanted (done ++ es) fs p (x done s))

pub both : (a b c : Judge) (es fs : List Entry) (found : Option Pending) → Advances a b es None → Advances b c fs found →
    Advances a c (es ++ fs) found
both a b c es fs None x y = (
  y.0 ∙ x.0,
  λ done s.
      subst (λ (l : List Entry). Stands c l) (append_assoc done es fs) (y.1 (done ++ es) (x.1 done s)),
)
both a b c es fs (Some p) x y = λ done s.
    subst (λ (k : ℕ). IsNth k (done ++ (es ++ fs)) p) x.0
    (subst (λ (l : List Entry). IsNth b.wanted l p) (append_assoc done es fs) (y (done ++ es) (x.1 done s)))

pub both_if : {E : Type 0} (a b c : Judge) (es fs : List Entry) (r : Result (Option Pending) E) → Advances a b es None →
    IfOk r (λ found. Advances b c fs found) → IfOk r (λ found. Advances a c (es ++ fs) found)
both_if a b c es fs (Ok found) x y = both a b c es fs found x y
both_if a b c es fs (Err e) x y = tt

-- ---- lines

pub starts : (wanted : ℕ) (log : List ℕ) (f : Finder) → Stands f.judge [] → f.judge.wanted ≡ wanted → f.waiting.entries ≡ [] →
    f.number ≡ 1 → Searches wanted log log f
starts wanted log f stands same none one = record {
  done = [];
  entries_are =
      ap (λ (n : ℕ). entries_from n [] (lines_of log)) (sym one)
      ∙ ap (λ (held : List (ℕ × Pending)). entries_from f.number held (lines_of log)) (sym none);
  stands = stands;
  wanted_is = same;
  number_is = omega (arith, one);
}

module _ (wanted : ℕ) (log rest : List ℕ) (old : Finder) (x : Searches wanted log rest old) (es fs : List Entry)
    (are : entries_from old.number old.waiting.entries (lines_of rest) ≡ es ++ fs) where
  all_are : entries_of (lines_of log) ≡ (x.done ++ es) ++ fs
  all_are = x.entries_are ∙ ap (λ (l : List Entry). x.done ++ l) are ∙ sym (append_assoc x.done es fs)

  pub found_in : (new : Judge) (p : Pending) → Advances old.judge new es (Some p) → IsNth wanted (entries_of (lines_of log)) p
  found_in new p y =
      subst (λ (k : ℕ). IsNth k (entries_of (lines_of log)) p) x.wanted_is
      (subst (λ (l : List Entry). IsNth old.judge.wanted l p) (sym all_are)
      (more_behind old.judge.wanted (x.done ++ es) fs p (y x.done x.stands)))

  pub goes_on : (behind : List ℕ) (new : Finder) → Advances old.judge new.judge es None →
      fs ≡ entries_from new.number new.waiting.entries (lines_of behind) → new.number ≡ old.number + 1 →
      length behind < length rest → Searches wanted log behind new
  goes_on behind new y left number shorter = record {
    done = x.done ++ es;
    entries_are = all_are ∙ ap (λ (l : List Entry). (x.done ++ es) ++ l) left;
    stands = y.1 x.done x.stands;
    wanted_is = y.0 ∙ x.wanted_is;
    number_is = omega (arith, number, shorter, x.number_is);
  }

  pub none_left : (new : Judge) → Advances old.judge new es None → fs ≡ [] → HasFewer wanted (entries_of (lines_of log)) new.counted
  none_left new y none =
      let s = y.1 x.done x.stands in
      let all : entries_of (lines_of log) ≡ x.done ++ es =
      all_are ∙ ap (λ (l : List Entry). (x.done ++ es) ++ l) none ∙ append-nil (x.done ++ es) in
      record {
        tellings = s.tellings;
        told = subst (λ (l : List Entry). AreTellings form [] l s.tellings) (sym all) s.told;
        count_is = s.counted_is;
        fewer = subst (λ (k : ℕ). new.counted < k) (y.0 ∙ x.wanted_is) s.below;
      }

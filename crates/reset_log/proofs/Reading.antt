-- A log as its reader goes over it, to the end.
use Rattle.std.proofs.Common.{◌≡◌, ◌↔◌, ◌∙◌, Some, None, Result, Err, ℕ, zero, suc, ◌+◌, ◌-◌, ◌<◌, ◌≤◌, ◌==◌, Bool, true, false, ◌||◌, Option, List, [], ◌∷◌, ◌++◌, length, take, refl, sym, ap, subst, append-nil, length-append, arith}
use Rattle.std.proofs.lemmas.Bool.Decides.{nat_tests}
use Rattle.std.specs.Io.KnownBytes.{Consumes}
use Rattle.io_edges.specs.Told.{StayTold, IfTold, TookOver}
use Rattle.reset_list.specs.declared.form.LogForm.{LogForm}
use Rattle.reset_list.specs.declared.stop.LogStop.{LogStop}
use Rattle.reset_list.specs.declared.stop.LogStop.TheVariants.{ReadFault, WriteFault, TooLong, Memory}
use Rattle.reset_list.specs.Cause.{StoppedWriting}
use Rattle.reset_log.specs.declared.log.LogReader.{LogReader}
use Rattle.reset_log.specs.Shown.{IsLineShown, totals_text}
use Rattle.reset_log.specs.Log.{parted, open_lines, lines_of, AreLinesShown}
use Rattle.reset_log.specs.Notes.{noted}
use Rattle.reset_log.specs.Noted.{nothing}
use Rattle.reset_list.specs.Wrote.{Wrote}
use Rattle.reset_log.specs.codings.Going.{IsNew, HasWritten, ShowsLine, ShowsLines, ShowsAll, ReadsLog}
use Rattle.reset_list.proofs.Lemmas.{one_more, wrote_nothing, wrote_then, nothing_came, consumes_then}
use Rattle.reset_log.proofs.Standing.{by_front, none_kept}

-- ---- the last line

no_open : (done : List ℕ) → (parted done).open_line ≡ [] → lines_of done ≡ (parted done).lines
no_open done e = ap (λ (o : List ℕ). (parted done).lines ++ open_lines o) e ∙ append-nil (parted done).lines

pub some_open : (done : List ℕ) → ((parted done).open_line ≡ [] → ⊥) →
    lines_of done ≡ (parted done).lines ++ (parted done).open_line ∷ []
some_open done ne = go (parted done).open_line ne
  where
    go : (o : List ℕ) → (o ≡ [] → ⊥) → (parted done).lines ++ open_lines o ≡ (parted done).lines ++ o ∷ []
    go [] none = absurd (none refl)
    go (b ∷ bytes) none = refl

pub front_of_none : (n : ℕ) (xs : List ℕ) → xs ≡ [] → take n xs ≡ []
front_of_none zero xs e = refl
front_of_none (suc n) [] e = refl
front_of_none (suc n) (x ∷ xs) e = absurd cc

pub ended : {K : Type 0} {w : K → Option (List ℕ)} {f : K → ℕ} {t : K → ℕ → Type 0} (old : LogReader) (done : List ℕ) (start was : K) →
    HasWritten w f t old done start was → length old.line.items ≡ 0 →
    ShowsLines w f t old old.form (lines_of done) start was
ended old done start was st e =
    let none : old.line.items ≡ [] = no_items old.line.items e in
    let unopened : (parted done).open_line ≡ [] = none_kept 65536 (parted done).open_line (omega arith) (sym st.holds.line_is ∙ none) in
    record {
      text = st.text;
      shown =
          subst (λ (ls : List (List ℕ)). AreLinesShown old.form 1 nothing ls st.text old.bad (noted old.notes)) (sym (no_open done unopened)) st.holds.shown;
      wrote = st.wrote;
    }
  where
    no_items : (xs : List ℕ) → length xs ≡ 0 → xs ≡ []
    no_items [] h = refl
    no_items (x ∷ xs) h = absurd (omega (arith, h))

pub ended_line : {K : Type 0} {w : K → Option (List ℕ)} {f : K → ℕ} {t : K → ℕ → Type 0} (old new : LogReader) (done gathered : List ℕ) (start was is : K) →
    HasWritten w f t old done start was → (sh : ShowsLine old new [] gathered) → Wrote w f t was is gathered →
    (length old.line.items ≡ 0 → ⊥) → ShowsLines w f t new old.form (lines_of done) start is
ended_line {w = w} {f = f} {t = t} old new done gathered start was is st sh wrote some =
    let opened : (parted done).open_line ≡ [] → ⊥ = λ e. some (ap (λ (l : List ℕ). length l) (st.holds.line_is ∙ front_of_none 65536 (parted done).open_line e)) in
    let shown : IsLineShown old.form (1 + length (parted done).lines) (noted old.notes) (parted done).open_line sh.text sh.here (noted new.notes) =
    by_front old.form old.number _ (noted old.notes) (noted old.notes) (noted new.notes) old.line.items (parted done).open_line sh.text sh.here (omega (arith, st.holds.number_is)) refl st.holds.line_is sh.shown in
    record {
      text = st.text ++ sh.text;
      shown =
          subst (λ (b : Bool). AreLinesShown old.form 1 nothing (lines_of done) (st.text ++ sh.text) b (noted new.notes)) (sym sh.bad)
          (subst (λ (ls : List (List ℕ)). AreLinesShown old.form 1 nothing ls (st.text ++ sh.text) (old.bad || sh.here) (noted new.notes)) (sym (some_open done opened))
          (one_more (IsLineShown old.form) 1 nothing (noted old.notes) (noted new.notes) (parted done).lines (parted done).open_line st.text sh.text old.bad sh.here st.holds.shown shown));
      wrote = wrote_then start was is st.text sh.text st.wrote (subst (λ (l : List ℕ). Wrote w f t was is l) sh.gathered wrote);
    }

-- all lines, and behind them what was counted
pub in_all : {K : Type 0} {w : K → Option (List ℕ)} {f : K → ℕ} {t : K → ℕ → Type 0} (r : LogReader) (form : LogForm) (lines : List (List ℕ)) (start was is : K) →
    ShowsLines w f t r form lines start was → Wrote w f t was is (totals_text form (noted r.notes)) →
    ShowsAll w f t form lines r.bad start is
in_all r form lines start was is sh wrote = record {
  text = sh.text ++ totals_text form (noted r.notes);
  is_shown = record { known = noted r.notes; told = sh.text; shown = sh.shown; text_is = refl };
  wrote = wrote_then start was is sh.text (totals_text form (noted r.notes)) sh.wrote wrote;
}

-- whether a line is kept
pub is_none : (size count : ℕ) (test : Bool) → test ≡ (size == 0) → test ≡ true → size ≡ count →
    count ≡ 0
is_none size count test e is same = let none : (size == 0) ≡ true = sym e ∙ is in grind (arith, nat_tests)

pub is_some : (size count : ℕ) (test : Bool) → test ≡ (size == 0) → test ≡ false → size ≡ count →
    count ≡ 0 → ⊥
is_some size count test e is same none = let some : (size == 0) ≡ false = sym e ∙ is in grind (arith, nat_tests)

-- ---- reads

pub at_start : {K : Type 0} {w : K → Option (List ℕ)} {f : K → ℕ} {t : K → ℕ → Type 0} (r : LogReader) (a : K) →
    IsNew r → HasWritten w f t r [] a a
unfolding parted
at_start r a new = record {
  text = [];
  holds = record {
    shown = (refl, new.bad_is, new.noted_is);
    line_is = new.line_is;
    number_is = new.number_is;
    taken_is = new.taken_is;
  };
  wrote = wrote_nothing a;
}

pub at_first : {K : Type 0} {w : K → Option (List ℕ)} {f : K → ℕ} {t : K → ℕ → Type 0} (r : LogReader) (form : LogForm) (first : Option (List ℕ)) (was : K) (a : ℕ) →
    IsNew r → r.form ≡ form → ReadsLog w f t r form first first was was a a
at_first r form first was a new same = record {
  done = [];
  came = nothing_came first;
  told = refl;
  stands = at_start r was new;
  small = omega arith;
  same = same;
  later = omega arith;
  wrote_later = omega arith;
}

pub reads_on : {K : Type 0} {w : K → Option (List ℕ)} {f : K → ℕ} {t : K → ℕ → Type 0} (r s : LogReader) (form : LogForm) (first now next : Option (List ℕ)) (was is will : K) (a b c : ℕ) (piece : List ℕ) →
    ReadsLog w f t r form first now was is a b → Consumes now next piece → StayTold now next →
    length piece ≤ 9223372036854775807 - r.taken →
    ((done : List ℕ) (start : K) → length done + length piece ≤ 9223372036854775807 → HasWritten w f t r done start is → HasWritten w f t s (done ++ piece) start will) →
    s.form ≡ r.form → b ≤ c → f is ≤ f will → ReadsLog w f t s form first next was will a c
reads_on r s form first now next was is will a b c piece h came told fits taken same later wrote =
    let size = h.stands.holds.taken_is in
    let room : length h.done + length piece ≤ 9223372036854775807 = omega (arith, size, fits, h.small) in
    record {
      done = h.done ++ piece;
      came = consumes_then first now next h.done piece h.told h.came came;
      told = told ∙ h.told;
      stands = taken h.done was room h.stands;
      small = omega (arith, room, length-append h.done piece);
      same = same ∙ h.same;
      later = omega (arith, h.later, later);
      wrote_later = omega (arith, h.wrote_later, wrote);
    }

-- each piece leaves less room
pub less_room : {K : Type 0} {w : K → Option (List ℕ)} {f : K → ℕ} {t : K → ℕ → Type 0} (r s : LogReader) (form : LogForm) (first now : Option (List ℕ)) (was is will : K) (a b : ℕ) (piece : List ℕ) →
    ReadsLog w f t r form first now was is a b → 0 < length piece →
    length piece ≤ 9223372036854775807 - r.taken →
    ((done : List ℕ) (start : K) → length done + length piece ≤ 9223372036854775807 → HasWritten w f t r done start is → HasWritten w f t s (done ++ piece) start will) →
    9223372036854775807 - s.taken < 9223372036854775807 - r.taken
less_room r s form first now was is will a b piece h some fits taken =
    let room : length h.done + length piece ≤ 9223372036854775807 = omega (arith, h.stands.holds.taken_is, fits, h.small) in
    let on = taken h.done was room h.stands in
    omega (arith, on.holds.taken_is, h.stands.holds.taken_is, length-append h.done piece, some, fits)

-- ---- a writer that stopped

not_long : {A : Type 0} (stop : LogStop) (a b : ℕ) → StoppedWriting a b stop →
    (◌≡◌ {A = Result A LogStop} (Err stop) (Err TooLong)) → ⊥
not_long ReadFault a b s e = s
not_long WriteFault a b s e = absurd cc
not_long TooLong a b s e = s
not_long (Memory error) a b s e = absurd cc

not_over : (old new done : List ℕ) → old ≡ done ++ new → length done ≤ 9223372036854775807 →
    TookOver 9223372036854775807 old new → ⊥
not_over old new done e few over =
    let size : length old ≡ length done + length new = ap (λ (l : List ℕ). length l) e ∙ length-append done new in
    omega (arith, size, few, over)

-- a writer doesn't stop since the log is too long, and no more was taken of the log than may be
pub not_too_long : (A : Type 0) (stop : LogStop) (first next : Option (List ℕ)) (done : List ℕ) (a b : ℕ) →
    StoppedWriting a b stop → Consumes first next done → length done ≤ 9223372036854775807 →
    IfTold first next (λ old new.
    (◌≡◌ {A = Result A LogStop} (Err stop) (Err TooLong)) ↔ TookOver 9223372036854775807 old new)
not_too_long A stop None next done a b s came few = tt
not_too_long A stop (Some old) None done a b s came few = tt
not_too_long A stop (Some old) (Some new) done a b s came few =
    ((λ e. absurd (not_long stop a b s e)), (λ over. absurd (not_over old new done came few over)))

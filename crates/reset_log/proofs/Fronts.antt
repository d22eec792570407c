-- What stands written where a log wasn't shown to its end: the front of its text.
use Rattle.std.proofs.Common.{◌≡◌, ◌∙◌, inl, inr, ℕ, ◌+◌, ◌-◌, ◌≤◌, ◌==◌, Bool, true, false, ◌||◌, Option, Result, Ok, Err, List, [], ◌∷◌, ◌++◌, length, refl, sym, ap, subst, append_assoc, append-nil, arith}
use Rattle.std.specs.Prelude.{if◌then◌else◌, IfSome, IfOk, IfErr, OnErr}
use Rattle.std.specs.Io.KnownBytes.{Appends, Consumes, IsAtEnd}
use Rattle.io_edges.specs.Faults.{Rose}
use Rattle.io_edges.specs.Told.{StayTold}
use Rattle.reset_list.specs.declared.form.LogForm.{LogForm}
use Rattle.reset_log.specs.Noted.{Noted, nothing}
use Rattle.reset_log.specs.Notes.{noted}
use Rattle.reset_log.specs.declared.log.LogReader.{LogReader}
use Rattle.reset_list.specs.declared.stop.LogStop.{LogStop}
use Rattle.reset_log.specs.Shown.{IsLineShown, totals_text}
use Rattle.reset_log.specs.Log.{onto_first, parted, open_lines, lines_of, AreLinesShown, IsLogShown, AreWritten}
use Rattle.reset_list.specs.Cause.{StoppedWriting}
use Rattle.reset_list.specs.Answered.{IsExact, IsComplete}
use Rattle.reset_list.specs.Wrote.{Wrote, WroteFront, WroteFrontOf}
use Rattle.reset_log.specs.codings.Going.{HasShown, HasWritten, ShowsLine, Begun, BreaksOff, BreaksText, Broke, ShowsLines, ShowsAll, ReadsLog}
use Rattle.reset_list.proofs.Lemmas.{one_more, told_once, told_first, wrote_then, front_then, front_more, front_whole, consumes_then, all_came, log_left, exact_of, complete_of}
use Rattle.reset_log.proofs.Standing.{by_front}
use Rattle.reset_log.proofs.Reading.{front_of_none, some_open}
use Rattle.reset_log.proofs.OneText.{same_line, one_lines}

-- ---- lines

front-placed : (test : Bool) (c : ℕ) (lines more : List (List ℕ)) (rest last : List ℕ) →
    (others : List (List ℕ))
    × ((if test then [] ∷ (lines ++ more) else (onto_first c (lines ++ more) last).lines) ≡ (if test then [] ∷ lines else (onto_first c lines rest).lines) ++ others)
front-placed true c lines more rest last = (more, refl)
front-placed false c [] more rest last = ((onto_first c more last).lines, refl)
front-placed false c (l ∷ lines) more rest last = (more, refl)

placed-lines : (test : Bool) (c : ℕ) (lines : List (List ℕ)) (rest : List ℕ) →
    (if test then record { lines = [] ∷ lines; open_line = rest } else onto_first c lines rest).lines
    ≡ (if test then [] ∷ lines else (onto_first c lines rest).lines)
placed-lines true c lines rest = refl
placed-lines false c lines rest = refl

-- the whole lines of bytes stay whatever comes behind
pub front_lines : (xs ys : List ℕ) →
    (others : List (List ℕ)) × ((parted (xs ++ ys)).lines ≡ (parted xs).lines ++ others)
unfolding parted
front_lines [] ys = ((parted ys).lines, refl)
front_lines (x ∷ xs) ys =
    let h = front_lines xs ys in
    let g = front-placed (x == 10) x (parted xs).lines h.0 (parted xs).open_line (parted (xs ++ ys)).open_line in (
      g.0,
      placed-lines (x == 10) x (parted (xs ++ ys)).lines (parted (xs ++ ys)).open_line
          ∙ ap (λ (ls : List (List ℕ)). if x == 10 then [] ∷ ls else (onto_first x ls (parted (xs ++ ys)).open_line).lines) h.1 ∙ g.1
          ∙ ap (λ (ls : List (List ℕ)). ls ++ g.0) (sym (placed-lines (x == 10) x (parted xs).lines (parted xs).open_line)),
    )

-- ---- a front of lines

begun_among : (form : LogForm) (lines more all : List (List ℕ)) (text : List ℕ) →
    Begun form lines text → all ≡ lines ++ more → Begun form all text
begun_among form lines more all text b e = record {
  first = b.first;
  others = b.others ++ more;
  lines_are = e ∙ ap (λ (ls : List (List ℕ)). ls ++ more) b.lines_are ∙ append_assoc b.first b.others more;
  bad = b.bad;
  known = b.known;
  shown = b.shown;
}

pub begun_more : (form : LogForm) (xs ys text : List ℕ) → Begun form (parted xs).lines text →
    Begun form (parted (xs ++ ys)).lines text
begun_more form xs ys text b =
    let h = front_lines xs ys in
    begun_among form (parted xs).lines h.0 (parted (xs ++ ys)).lines text b h.1

-- all whole lines
pub begun_all : (r : LogReader) (done text : List ℕ) → HasShown r done text →
    Begun r.form (parted done).lines text
begun_all r done text h = record {
  first = (parted done).lines;
  others = [];
  lines_are = sym (append-nil (parted done).lines);
  bad = r.bad;
  known = noted r.notes;
  shown = h.shown;
}

-- of bytes that were taken so far
pub begun_so_far : (form : LogForm) (r : LogReader) (done bytes took rest text out : List ℕ) →
    HasShown r (done ++ took) (text ++ out) → bytes ≡ took ++ rest → r.form ≡ form →
    Begun form (parted (done ++ bytes)).lines (text ++ out)
begun_so_far form r done bytes took rest text out h e same =
    subst (λ (s : LogForm). Begun s (parted (done ++ bytes)).lines (text ++ out)) same
    (subst (λ (l : List ℕ). Begun r.form (parted l).lines (text ++ out))
    (append_assoc done took rest ∙ ap (λ (l : List ℕ). done ++ l) (sym e))
    (begun_more r.form (done ++ took) rest (text ++ out) (begun_all r (done ++ took) (text ++ out) h)))

-- more was gathered and written
pub stands_on : {K : Type 0} {w : K → Option (List ℕ)} {f : K → ℕ} {t : K → ℕ → Type 0} (old new : LogReader) (done piece out : List ℕ) (start was is : K) →
    (st : HasWritten w f t old done start was) → HasShown new (done ++ piece) (st.text ++ out) →
    Wrote w f t was is out → HasWritten w f t new (done ++ piece) start is
stands_on old new done piece out start was is st h wrote = record {
  text = st.text ++ out;
  holds = h;
  wrote = wrote_then start was is st.text out st.wrote wrote;
}

-- nothing was gathered yet
pub holds_none : (r : LogReader) (done text out : List ℕ) → out ≡ [] → HasShown r done text →
    HasShown r done (text ++ out)
holds_none r done text out e h = subst (λ (l : List ℕ). HasShown r done l) (sym (ap (λ (l : List ℕ). text ++ l) e ∙ append-nil text)) h

broke_among : {K : Type 0} {w : K → Option (List ℕ)} {f : K → ℕ} {t : K → ℕ → Type 0} (form : LogForm) (lines more all : List (List ℕ)) (old new : K) →
    Broke w f t form lines old new → all ≡ lines ++ more → Broke w f t form all old new
broke_among form lines more all old new b e = record {
  text = b.text;
  begun = begun_among form lines more all b.text b.begun e;
  wrote = b.wrote;
}

broke_more : {K : Type 0} {w : K → Option (List ℕ)} {f : K → ℕ} {t : K → ℕ → Type 0} (form : LogForm) (xs ys : List ℕ) (old new : K) →
    Broke w f t form (parted xs).lines old new →
    Broke w f t form (parted (xs ++ ys)).lines old new
broke_more form xs ys old new b = record {
  text = b.text;
  begun = begun_more form xs ys b.text b.begun;
  wrote = b.wrote;
}

-- of a whole log
pub broke_log : {K : Type 0} {w : K → Option (List ℕ)} {f : K → ℕ} {t : K → ℕ → Type 0} (form : LogForm) (xs ys : List ℕ) (old new : K) →
    Broke w f t form (parted xs).lines old new →
    Broke w f t form (lines_of (xs ++ ys)) old new
broke_log form xs ys old new b =
    broke_among form (parted (xs ++ ys)).lines (open_lines (parted (xs ++ ys)).open_line) (lines_of (xs ++ ys)) old new (broke_more form xs ys old new b) refl

-- the whole lines were shown
stood : {K : Type 0} {w : K → Option (List ℕ)} {f : K → ℕ} {t : K → ℕ → Type 0} (r : LogReader) (done : List ℕ) (start was : K) →
    HasWritten w f t r done start was → Broke w f t r.form (parted done).lines start was
stood r done start was st = record {
  text = st.text;
  begun = begun_all r done st.text st.holds;
  wrote = front_whole start was st.text st.wrote;
}

-- what was gathered of lines was written, or its front
pub broke_whole : {K : Type 0} {w : K → Option (List ℕ)} {f : K → ℕ} {t : K → ℕ → Type 0} (form : LogForm) (lines : List (List ℕ)) (text more : List ℕ) (start was is : K) →
    Wrote w f t start was text → Begun form lines (text ++ more) → Wrote w f t was is more →
    Broke w f t form lines start is
broke_whole form lines text more start was is wrote begun whole = record {
  text = text ++ more;
  begun = begun;
  wrote = front_whole start is (text ++ more) (wrote_then start was is text more wrote whole);
}

pub broke_front : {K : Type 0} {w : K → Option (List ℕ)} {f : K → ℕ} {t : K → ℕ → Type 0} (form : LogForm) (lines : List (List ℕ)) (text more : List ℕ) (start was is : K) →
    Wrote w f t start was text → Begun form lines (text ++ more) → WroteFront w f t was is more →
    Broke w f t form lines start is
broke_front form lines text more start was is wrote begun part = record {
  text = text ++ more;
  begun = begun;
  wrote = front_then start was is text more wrote part;
}

-- the next line wasn't shown whole
part_more : {K : Type 0} {w : K → Option (List ℕ)} {f : K → ℕ} {t : K → ℕ → Type 0} (form : LogForm) (lines : List (List ℕ)) (line text : List ℕ) (bad : Bool) (known next : Noted) (more : List ℕ) (here : Bool) (start was is : K) →
    AreLinesShown form 1 nothing lines text bad known →
    IsLineShown form (1 + length lines) known line more here next → Wrote w f t start was text →
    WroteFront w f t was is more → Broke w f t form (lines ++ line ∷ []) start is
part_more form lines line text bad known next more here start was is shown one wrote part =
    broke_front form (lines ++ line ∷ []) text more start was is wrote
    (record {
      first = lines ++ line ∷ [];
      others = [];
      lines_are = sym (append-nil (lines ++ line ∷ []));
      bad = bad || here;
      known = next;
      shown = one_more (IsLineShown form) 1 nothing known next lines line text more bad here shown one;
    })
    part

broke_off : {K : Type 0} {w : K → Option (List ℕ)} {f : K → ℕ} {t : K → ℕ → Type 0} (old : LogReader) (done : List ℕ) (start was is : K) →
    HasWritten w f t old done start was → BreaksOff w f t old was is →
    Broke w f t old.form ((parted done).lines ++ (parted done).open_line ∷ []) start is
broke_off {K = K} {w = w} {f = f} {t = t} old done start was is st (inl e) =
    subst (λ (o : K). Broke w f t old.form ((parted done).lines ++ (parted done).open_line ∷ []) start o) (sym e)
    (broke_among old.form (parted done).lines ((parted done).open_line ∷ []) _ start was (stood old done start was st) refl)
broke_off old done start was is st (inr p) =
    let place : old.number ≡ 1 + length (parted done).lines = omega (arith, st.holds.number_is) in
    let one : IsLineShown old.form (1 + length (parted done).lines) (noted old.notes) (parted done).open_line p.text p.here p.known =
    by_front old.form old.number _ (noted old.notes) (noted old.notes) p.known old.line.items (parted done).open_line p.text p.here place refl st.holds.line_is p.shown in
    part_more old.form (parted done).lines (parted done).open_line st.text old.bad (noted old.notes) p.known p.text p.here start was is st.holds.shown one st.wrote p.wrote

-- what is shown of the line that was kept wasn't written whole
pub broke_line : {K : Type 0} {w : K → Option (List ℕ)} {f : K → ℕ} {t : K → ℕ → Type 0} (old new : LogReader) (gathered : List ℕ) (was is : K) →
    ShowsLine old new [] gathered → WroteFront w f t was is gathered → BreaksOff w f t old was is
broke_line {w = w} {f = f} {t = t} old new gathered was is sh part = inr (record {
  text = sh.text;
  here = sh.here;
  known = noted new.notes;
  shown = sh.shown;
  wrote = subst (λ (l : List ℕ). WroteFront w f t was is l) sh.gathered part;
})

-- at the end
pub broke_last : {K : Type 0} {w : K → Option (List ℕ)} {f : K → ℕ} {t : K → ℕ → Type 0} (old : LogReader) (done : List ℕ) (start was is : K) →
    HasWritten w f t old done start was → BreaksOff w f t old was is →
    (length old.line.items ≡ 0 → ⊥) →
    Broke w f t old.form (lines_of done) start is
broke_last {w = w} {f = f} {t = t} old done start was is st off some =
    subst (λ (ls : List (List ℕ)). Broke w f t old.form ls start is)
    (sym (some_open done (λ e. some (ap (λ (l : List ℕ). length l) (st.holds.line_is ∙ front_of_none 65536 (parted done).open_line e)))))
    (broke_off old done start was is st off)

-- a front of lines is a front of the text of all
pub front_of : {K : Type 0} {w : K → Option (List ℕ)} {f : K → ℕ} {t : K → ℕ → Type 0} (form : LogForm) (lines : List (List ℕ)) (old new : K) →
    Broke w f t form lines old new → WroteFrontOf w f t (IsLogShown form lines) old new
front_of form lines old new b = λ text bad is.
    let all : AreLinesShown form 1 nothing (b.begun.first ++ b.begun.others) is.told bad is.known = subst (λ (ls : List (List ℕ)). AreLinesShown form 1 nothing ls is.told bad is.known) b.begun.lines_are is.shown in
    let first = told_first (IsLineShown form) 1 nothing is.known b.begun.first b.begun.others is.told bad all in
    let same =
    told_once (IsLineShown form) (λ n ks line e g h k p q. same_line form n ks line e g h k p q) 1 nothing b.begun.first first.0 b.text first.2 b.begun.bad first.3 b.begun.known first.4 b.begun.shown
    in
    front_more old new b.text (first.1 ++ totals_text form is.known) text
    (is.text_is
    ∙ ap (λ (l : List ℕ). l ++ totals_text form is.known) (first.5 ∙ ap (λ (l : List ℕ). l ++ first.1) same.0)
    ∙ append_assoc b.text first.1 (totals_text form is.known)) b.wrote

-- all lines were shown, and what was counted wasn't written whole
pub front_totals : {K : Type 0} {w : K → Option (List ℕ)} {f : K → ℕ} {t : K → ℕ → Type 0} (r : LogReader) (form : LogForm) (lines : List (List ℕ)) (start was is : K) →
    ShowsLines w f t r form lines start was → BreaksText w f t was is (totals_text form (noted r.notes)) →
    WroteFrontOf w f t (IsLogShown form lines) start is
front_totals {K = K} {w = w} {f = f} {t = t} r form lines start was is sh (inl e) = λ text bad shown.
    let whole : IsLogShown form lines (sh.text ++ totals_text form (noted r.notes)) r.bad = record { known = noted r.notes; told = sh.text; shown = sh.shown; text_is = refl } in
    let same = one_lines form lines (sh.text ++ totals_text form (noted r.notes)) text r.bad bad whole shown in
    subst (λ (o : K). WroteFront w f t start o text) (sym e)
    (front_more start was sh.text (totals_text form (noted r.notes)) text (sym same.0) (front_whole start was sh.text sh.wrote))
front_totals {w = w} {f = f} {t = t} r form lines start was is sh (inr part) = λ text bad shown.
    let whole : IsLogShown form lines (sh.text ++ totals_text form (noted r.notes)) r.bad = record { known = noted r.notes; told = sh.text; shown = sh.shown; text_is = refl } in
    let same = one_lines form lines (sh.text ++ totals_text form (noted r.notes)) text r.bad bad whole shown in
    subst (λ (l : List ℕ). WroteFront w f t start is l) same.0
    (front_then start was is sh.text (totals_text form (noted r.notes)) sh.wrote part)

-- what was written whole is a front too
front_all : {K : Type 0} {w : K → Option (List ℕ)} {f : K → ℕ} {t : K → ℕ → Type 0} (form : LogForm) (lines : List (List ℕ)) (bad : Bool) (old new : K) →
    ShowsAll w f t form lines bad old new →
    WroteFrontOf w f t (IsLogShown form lines) old new
front_all {w = w} {f = f} {t = t} form lines bad old new all = λ text c is.
    let same = one_lines form lines all.text text bad c all.is_shown is in
    front_whole old new text (subst (λ (l : List ℕ). Wrote w f t old new l) same.0 all.wrote)

-- ---- a call

-- no more was read
pub front_left : {K : Type 0} {w : K → Option (List ℕ)} {f : K → ℕ} {t : K → ℕ → Type 0} (r : LogReader) (form : LogForm) (first now : Option (List ℕ)) (was is : K) (a b : ℕ) →
    ReadsLog w f t r form first now was is a b →
    IfSome first (λ log. WroteFrontOf w f t (IsLogShown form (lines_of log)) was is)
front_left {w = w} {f = f} {t = t} r form first now was is a b h =
    log_left first now h.done (λ log. WroteFrontOf w f t (IsLogShown form (lines_of log)) was is) h.came h.told
    (λ left.
    front_of form (lines_of (h.done ++ left)) was is
    (broke_log form h.done left was is
    (subst (λ (s : LogForm). Broke w f t s (parted h.done).lines was is) h.same (stood r h.done was is h.stands))))

-- a piece wasn't shown whole
pub front_piece : {K : Type 0} {w : K → Option (List ℕ)} {f : K → ℕ} {t : K → ℕ → Type 0} (r : LogReader) (form : LogForm) (first now next : Option (List ℕ)) (was is will : K) (a b : ℕ) (piece : List ℕ) →
    ReadsLog w f t r form first now was is a b → Consumes now next piece → StayTold now next →
    length piece ≤ 9223372036854775807 - r.taken →
    ((done : List ℕ) (start : K) → length done + length piece ≤ 9223372036854775807 → HasWritten w f t r done start is → Broke w f t r.form (parted (done ++ piece)).lines start will) →
    IfSome first (λ log. WroteFrontOf w f t (IsLogShown form (lines_of log)) was will)
front_piece {w = w} {f = f} {t = t} r form first now next was is will a b piece h came told fits part =
    let room : length h.done + length piece ≤ 9223372036854775807 = omega (arith, h.stands.holds.taken_is, fits, h.small) in
    log_left first next (h.done ++ piece) (λ log. WroteFrontOf w f t (IsLogShown form (lines_of log)) was will)
    (consumes_then first now next h.done piece h.told h.came came) (told ∙ h.told)
    (λ left.
    front_of form (lines_of ((h.done ++ piece) ++ left)) was will
    (broke_log form (h.done ++ piece) left was will
    (subst (λ (s : LogForm). Broke w f t s (parted (h.done ++ piece)).lines was will) h.same (part h.done was room h.stands))))

-- all was read: what is shown of it was written, or its front
at_end : {K : Type 0} {w : K → Option (List ℕ)} {f : K → ℕ} {t : K → ℕ → Type 0} (r : LogReader) (form : LogForm) (first now : Option (List ℕ)) (was is will : K) (a b : ℕ) (result : Result Bool LogStop) →
    (h : ReadsLog w f t r form first now was is a b) →
    IfOk result (λ bad. (done : List ℕ) (start : K) → HasWritten w f t r done start is → ShowsAll w f t r.form (lines_of done) bad start will) →
    OnErr result ((done : List ℕ) (start : K) → HasWritten w f t r done start is → WroteFrontOf w f t (IsLogShown r.form (lines_of done)) start will) →
    WroteFrontOf w f t (IsLogShown form (lines_of h.done)) was will
at_end {w = w} {f = f} {t = t} r form first now was is will a b (Ok bad) h ok part =
    front_all form (lines_of h.done) bad was will
    (subst (λ (s : LogForm). ShowsAll w f t s (lines_of h.done) bad was will) h.same (ok h.done was h.stands))
at_end {w = w} {f = f} {t = t} r form first now was is will a b (Err stop) h ok part =
    subst (λ (s : LogForm). WroteFrontOf w f t (IsLogShown s (lines_of h.done)) was will) h.same (part h.done was h.stands)

pub front_end : {K : Type 0} {w : K → Option (List ℕ)} {f : K → ℕ} {t : K → ℕ → Type 0} (r : LogReader) (form : LogForm) (first now next : Option (List ℕ)) (was is will : K) (a b : ℕ) (result : Result Bool LogStop) →
    ReadsLog w f t r form first now was is a b → Consumes now next [] → IsAtEnd next →
    IfOk result (λ bad. (done : List ℕ) (start : K) → HasWritten w f t r done start is → ShowsAll w f t r.form (lines_of done) bad start will) →
    OnErr result ((done : List ℕ) (start : K) → HasWritten w f t r done start is → WroteFrontOf w f t (IsLogShown r.form (lines_of done)) start will) →
    IfSome first (λ log. WroteFrontOf w f t (IsLogShown form (lines_of log)) was will)
front_end {w = w} {f = f} {t = t} r form first now next was is will a b result h none end ok part =
    all_came first now next h.done (λ log. WroteFrontOf w f t (IsLogShown form (lines_of log)) was will) h.came h.told none end
    (at_end r form first now was is will a b result h ok part)

-- the text that is answered
given : {K : Type 0} {w : K → Option (List ℕ)} {f : K → ℕ} {t : K → ℕ → Type 0} (r : LogReader) (form : LogForm) (first now : Option (List ℕ)) (was is will : K) (a b : ℕ) (result : Result Bool LogStop) →
    (h : ReadsLog w f t r form first now was is a b) →
    IfOk result (λ bad. (done : List ℕ) (start : K) → HasWritten w f t r done start is → ShowsAll w f t r.form (lines_of done) bad start will) →
    IfOk result (λ bad. (text : List ℕ) × IsLogShown form (lines_of h.done) text bad × Appends (w was) (w will) text)
given {w = w} {f = f} {t = t} r form first now was is will a b (Ok bad) h ok =
    let all : ShowsAll w f t form (lines_of h.done) bad was will = subst (λ (s : LogForm). ShowsAll w f t s (lines_of h.done) bad was will) h.same (ok h.done was h.stands) in
    (all.text, all.is_shown, all.wrote.appended)
given r form first now was is will a b (Err stop) h ok = tt

pub shown_end : {K : Type 0} {w : K → Option (List ℕ)} {f : K → ℕ} {t : K → ℕ → Type 0} (r : LogReader) (form : LogForm) (first now next : Option (List ℕ)) (was is will : K) (a b : ℕ) (result : Result Bool LogStop) →
    ReadsLog w f t r form first now was is a b → Consumes now next [] → IsAtEnd next →
    IfOk result (λ bad. (done : List ℕ) (start : K) → HasWritten w f t r done start is → ShowsAll w f t r.form (lines_of done) bad start will) →
    IfOk result (λ bad. IfSome first (λ log. AreWritten form (w was) (w will) (lines_of log) bad))
shown_end {w = w} r form first now next was is will a b (Ok bad) h none end ok =
    let all = given r form first now was is will a b (Ok bad) h ok in
    all_came first now next h.done (λ log. AreWritten form (w was) (w will) (lines_of log) bad) h.came h.told none end
    (record { text = all.0; is_shown = all.1; wrote = all.2 })
shown_end r form first now next was is will a b (Err stop) h none end ok = tt

pub exact_end : {K : Type 0} {w : K → Option (List ℕ)} {f : K → ℕ} {t : K → ℕ → Type 0} (r : LogReader) (form : LogForm) (first now next : Option (List ℕ)) (was is will : K) (a b : ℕ) (result : Result Bool LogStop) →
    ReadsLog w f t r form first now was is a b → Consumes now next [] → IsAtEnd next →
    IfOk result (λ bad. (done : List ℕ) (start : K) → HasWritten w f t r done start is → ShowsAll w f t r.form (lines_of done) bad start will) →
    IfSome first (λ log. IsExact (IsLogShown form (lines_of log)) result)
exact_end {w = w} r form first now next was is will a b result h none end ok =
    all_came first now next h.done (λ log. IsExact (IsLogShown form (lines_of log)) result) h.came h.told none end
    (exact_of (IsLogShown form (lines_of h.done)) (w was) (w will) result (one_lines form (lines_of h.done))
    (given r form first now was is will a b result h ok))

pub complete_end : {K : Type 0} {w : K → Option (List ℕ)} {f : K → ℕ} {t : K → ℕ → Type 0} (r : LogReader) (form : LogForm) (first now next : Option (List ℕ)) (was is will : K) (a b : ℕ) (result : Result Bool LogStop) →
    ReadsLog w f t r form first now was is a b → Consumes now next [] → IsAtEnd next →
    IfOk result (λ bad. (done : List ℕ) (start : K) → HasWritten w f t r done start is → ShowsAll w f t r.form (lines_of done) bad start will) →
    IfErr result (StoppedWriting (f is) (f will)) → (Rose (f was) (f will) → ⊥) →
    IfSome first (λ log. length log ≤ 9223372036854775807 → IsComplete (IsLogShown form (lines_of log)) result (w was) (w will))
complete_end {w = w} {f = f} r form first now next was is will a b result h none end ok stops sound =
    all_came first now next h.done (λ log. length log ≤ 9223372036854775807 → IsComplete (IsLogShown form (lines_of log)) result (w was) (w will)) h.came h.told none end
    (λ small.
    complete_of (IsLogShown form (lines_of h.done)) (w was) (w will) result (f was) (f is) (f will) (one_lines form (lines_of h.done))
    (given r form first now was is will a b result h ok) stops h.wrote_later sound)

-- Where the reader of a log stands behind bytes.
use Rattle.std.proofs.Common.{◌≡◌, ◌∙◌, ℕ, zero, suc, ◌+◌, ◌<◌, ◌≤◌, ◌^◌, Bool, ◌||◌, List, [], ◌∷◌, ◌++◌, length, take, refl, sym, ap, subst, append_assoc, length-append, arith}
use Rattle.std.proofs.lemmas.List.{take_all}
use Rattle.reset_list.specs.declared.form.LogForm.{LogForm}
use Rattle.reset_log.specs.Noted.{Noted, nothing}
use Rattle.reset_log.specs.Notes.{noted}
use Rattle.log_line.specs.declared.line.LogLine.{LogLine}
use Rattle.reset_log.specs.declared.log.LogReader.{LogReader}
use Rattle.log_line.specs.Line.{line_of}
use Rattle.reset_log.specs.Shown.{IsLogLineShown, IsLineShown}
use Rattle.reset_log.specs.Log.{Parted, parted, AreLinesShown}
use Rattle.reset_log.specs.codings.Going.{HasShown, ShowsLine, ShowsWhole, KeepsBytes, IsOneLine}
use Rattle.reset_log.proofs.Going.{ends_line, goes_on, few_lines, same_line}
use Rattle.reset_list.proofs.Lemmas.{one_more}

line_ended : (form : LogForm) (done : List ℕ) (ks next : Noted) (text more : List ℕ) (bad here : Bool) →
    AreLinesShown form 1 nothing (parted done).lines text bad ks →
    IsLineShown form (1 + length (parted done).lines) ks (parted done).open_line more here next →
    AreLinesShown form 1 nothing (parted (done ++ 10 ∷ [])).lines (text ++ more) (bad || here) next
line_ended form done ks next text more bad here shown is =
    subst (λ (p : Parted). AreLinesShown form 1 nothing p.lines (text ++ more) (bad || here) next) (sym (ends_line done))
    (one_more (IsLineShown form) 1 nothing ks next (parted done).lines (parted done).open_line text more bad here shown is)

-- a line is shown by its first bytes
pub by_front : (form : LogForm) (n m : ℕ) (ks js next : Noted) (kept line text : List ℕ) (bad : Bool) →
    n ≡ m → js ≡ ks → kept ≡ take 65536 line → IsLineShown form n js kept text bad next →
    IsLineShown form m ks line text bad next
by_front form n m ks js next kept line text bad e f is shown =
    let same : line_of kept ≡ line_of line = ap line_of is ∙ same_line line in
    subst (λ (l : LogLine). IsLogLineShown form m ks l text bad next) same
    (subst (λ (j : Noted). IsLogLineShown form m j (line_of kept) text bad next) f
    (subst (λ (k : ℕ). IsLogLineShown form k js (line_of kept) text bad next) e shown))

all_same : (s r : LogForm) (ks js : Noted) (a b : Bool) (lines : List (List ℕ)) (text : List ℕ) →
    r ≡ s → js ≡ ks → b ≡ a → AreLinesShown s 1 nothing lines text a ks → AreLinesShown r 1 nothing lines text b js
all_same s r ks js a b lines text e f g shown =
    subst (λ (x : LogForm). AreLinesShown x 1 nothing lines text b js) (sym e)
    (subst (λ (x : Noted). AreLinesShown s 1 nothing lines text b x) (sym f)
    (subst (λ (x : Bool). AreLinesShown s 1 nothing lines text x ks) (sym g) shown))

-- behind bytes of a line
pub after_bytes : (old new : LogReader) (done bytes text : List ℕ) → IsOneLine bytes →
    length done + length bytes ≤ 9223372036854775807 → HasShown old done text → KeepsBytes old new bytes →
    HasShown new (done ++ bytes) text
after_bytes old new done bytes text one few h k =
    let on = goes_on done bytes one in
    record {
      shown =
          subst (λ (p : Parted). AreLinesShown new.form 1 nothing p.lines text new.bad (noted new.notes)) (sym on)
          (all_same old.form new.form (noted old.notes) (noted new.notes) old.bad new.bad (parted done).lines text k.form k.notes k.bad h.shown);
      line_is = k.line_is (parted done).open_line h.line_is ∙ ap (λ (p : Parted). take 65536 p.open_line) (sym on);
      number_is = k.number_is ∙ h.number_is ∙ ap (λ (p : Parted). length p.lines + 1) (sym on);
      taken_is = omega (arith, k.taken_is (omega (arith, h.taken_is, few)), h.taken_is, length-append done bytes);
    }

-- behind a line feed
pub after_line : (old mid new : LogReader) (done text was is : List ℕ) →
    length done < 9223372036854775807 → HasShown old done (text ++ was) → ShowsLine mid new was is →
    mid.form ≡ old.form → noted mid.notes ≡ noted old.notes → mid.line.items ≡ old.line.items → mid.number ≡ old.number → mid.bad ≡ old.bad → mid.taken ≡ old.taken + 1 →
    HasShown new (done ++ 10 ∷ []) (text ++ is)
after_line old mid new done text was is few h sh es ec el en eb et =
    let lines = few_lines done in
    let small : mid.number < 2 ^ 63 = omega (arith, lines, few, en, h.number_is) in
    let end = ends_line done in
    let count : length (parted (done ++ 10 ∷ [])).lines ≡ length (parted done).lines + 1 =
    ap (λ (p : Parted). length p.lines) end ∙ length-append (parted done).lines ((parted done).open_line ∷ []) in
    let place : mid.number ≡ 1 + length (parted done).lines = omega (arith, en, h.number_is) in
    let shown : IsLineShown old.form (1 + length (parted done).lines) (noted old.notes) (parted done).open_line sh.text sh.here (noted new.notes) =
    by_front old.form mid.number _ (noted old.notes) (noted mid.notes) (noted new.notes) mid.line.items (parted done).open_line sh.text sh.here place ec (el ∙ h.line_is)
    (subst (λ (s : LogForm). IsLineShown s mid.number (noted mid.notes) mid.line.items sh.text sh.here (noted new.notes)) es sh.shown) in
    let gathered : text ++ is ≡ (text ++ was) ++ sh.text = ap (λ (l : List ℕ). text ++ l) sh.gathered ∙ sym (append_assoc text was sh.text) in
    record {
      shown =
          subst (λ (l : List ℕ). AreLinesShown new.form 1 nothing (parted (done ++ 10 ∷ [])).lines l new.bad (noted new.notes)) (sym gathered)
          (all_same old.form new.form (noted new.notes) (noted new.notes) (old.bad || sh.here) new.bad _ _ (sh.form ∙ es) refl
          (sh.bad ∙ ap (λ (b : Bool). b || sh.here) eb)
          (line_ended old.form done (noted old.notes) (noted new.notes) (text ++ was) sh.text old.bad sh.here h.shown shown));
      line_is = sh.line_is ∙ ap (λ (p : Parted). take 65536 p.open_line) (sym end);
      number_is = omega (arith, sh.number_is small, en, h.number_is, count);
      taken_is = omega (arith, sh.taken_is, et, h.taken_is, length-append done (10 ∷ []));
    }

pub none_kept : (n : ℕ) (line : List ℕ) → 0 < n → take n line ≡ [] → line ≡ []
none_kept zero line some e = absurd (omega (arith, some))
none_kept (suc n) [] some e = refl
none_kept (suc n) (c ∷ line) some e = absurd cc

abbrev opened : List (List ℕ) → List ℕ → Parted
opened lines rest = record { lines = lines; open_line = rest }

-- behind a line that came whole, and its line feed
pub after_whole : (old new : LogReader) (done bytes text was is : List ℕ) → IsOneLine bytes →
    length done + length bytes < 9223372036854775807 → length bytes ≤ 65536 → old.line.items ≡ [] →
    HasShown old done (text ++ was) → ShowsWhole old new bytes was is →
    HasShown new (done ++ (bytes ++ 10 ∷ [])) (text ++ is)
after_whole old new done bytes text was is one few fits empty h sh =
    let size = length-append done bytes in
    let lines = few_lines done in
    let small : old.number < 2 ^ 63 = omega (arith, lines, few, h.number_is) in
    let nothing_open : (parted done).open_line ≡ [] = none_kept 65536 (parted done).open_line (omega arith) (sym h.line_is ∙ empty) in
    let on : parted (done ++ bytes) ≡ opened (parted done).lines bytes =
    goes_on done bytes one ∙ ap (λ (l : List ℕ). opened (parted done).lines (l ++ bytes)) nothing_open in
    let place : old.number ≡ 1 + length (parted (done ++ bytes)).lines = omega (arith, h.number_is, ap (λ (p : Parted). length p.lines) on) in
    let shown : IsLineShown old.form (1 + length (parted (done ++ bytes)).lines) (noted old.notes) (parted (done ++ bytes)).open_line sh.text sh.here (noted new.notes) =
    by_front old.form old.number _ (noted old.notes) (noted old.notes) (noted new.notes) bytes (parted (done ++ bytes)).open_line sh.text sh.here place refl
    (sym (take_all 65536 bytes fits) ∙ ap (λ (p : Parted). take 65536 p.open_line) (sym on)) sh.shown in
    let before : AreLinesShown old.form 1 nothing (parted (done ++ bytes)).lines (text ++ was) old.bad (noted old.notes) =
    subst (λ (p : Parted). AreLinesShown old.form 1 nothing p.lines (text ++ was) old.bad (noted old.notes)) (sym on) h.shown in
    let gathered : text ++ is ≡ (text ++ was) ++ sh.text = ap (λ (l : List ℕ). text ++ l) sh.gathered ∙ sym (append_assoc text was sh.text) in
    let end = ends_line (done ++ bytes) in
    let count : length (parted ((done ++ bytes) ++ 10 ∷ [])).lines ≡ length (parted (done ++ bytes)).lines + 1 =
    ap (λ (p : Parted). length p.lines) end ∙ length-append (parted (done ++ bytes)).lines ((parted (done ++ bytes)).open_line ∷ []) in
    subst (λ (l : List ℕ). HasShown new l (text ++ is)) (append_assoc done bytes (10 ∷ []))
    (record {
      shown =
          subst (λ (l : List ℕ). AreLinesShown new.form 1 nothing (parted ((done ++ bytes) ++ 10 ∷ [])).lines l new.bad (noted new.notes)) (sym gathered)
          (all_same old.form new.form (noted new.notes) (noted new.notes) (old.bad || sh.here) new.bad _ _ sh.form refl sh.bad
          (line_ended old.form (done ++ bytes) (noted old.notes) (noted new.notes) (text ++ was) sh.text old.bad sh.here before shown));
      line_is = sh.line_is ∙ empty ∙ ap (λ (p : Parted). take 65536 p.open_line) (sym end);
      number_is = omega (arith, sh.number_is small, place, count);
      taken_is = omega (arith, sh.taken_is (omega (arith, h.taken_is, few)), h.taken_is, size, length-append (done ++ bytes) (10 ∷ []));
    })

-- A line without a mark is none that is shown.
use Rattle.std.proofs.Common.{◌≡◌, ◌∙◌, ℕ, zero, suc, ◌+◌, ◌<◌, ◌≤◌, Bool, true, false, ◌==◌, List, [], ◌∷◌, ◌++◌, Option, Some, None, length, take, drop, refl, sym, ap, subst, arith}
use Rattle.memchr.specs.Find.{Nowhere, Passes, is_byte}
use Rattle.std.proofs.lemmas.Bool.{false≢true}
use Rattle.std.specs.Prelude.{not, if◌then◌else◌, ◌||◌, ◌&&◌, ◌-◌, cond, filter, is_some, codes}
use Rattle.std.specs.List.{All, slice_split, onto_first}
use Rattle.std.specs.Str.{bytes_eq}
use Rattle.std.proofs.lemmas.List.{take_all, take_at}
use Rattle.std.proofs.lemmas.Slice.Eq.{bytes_eq-Decides}
use Rattle.std.proofs.lemmas.List.Elements.{All-nil, All-cons, All-head, All-tail, All-filter}
use Rattle.line_words.specs.Words.{is_some_text, words_by}
use Rattle.line_words.proofs.Lemmas.{some_text}
use Rattle.log_line.specs.Words.{is_blank, words_of, behind}
use Rattle.log_line.specs.declared.line.LogLine.TheVariants.{Other}
use Rattle.log_line.specs.Time.{time_of, or_time, front_time}
use Rattle.log_line.specs.Said.{is_driver}
use Rattle.log_line.specs.Driver.{driver}
use Rattle.log_line.specs.Line.{event_of, named, has_loss, is_lost, line_of}
use Rattle.log_line.specs.Marks.{is_mark, has_mark, begins_loss}

-- ---- a part of an unmarked text is unmarked

abbrev Unmarked : List ℕ → Type 0
Unmarked text = has_mark text ≡ false

longer : (key text : List ℕ) (n : ℕ) → take (length key) (take n text) ≡ key →
    take (length key) text ≡ key
longer [] text n e = refl
longer (k ∷ key) [] zero e = absurd cc
longer (k ∷ key) [] (suc n) e = absurd cc
longer (k ∷ key) (c ∷ text) zero e = absurd cc
longer (k ∷ key) (c ∷ text) (suc n) e =
    let first : c ≡ k = cc in
    let rest : take (length key) (take n text) ≡ key = cc in
    ap (λ (l : List ℕ). c ∷ l) (longer key text n rest) ∙ ap (λ (x : ℕ). x ∷ key) first

begins_less : (key text : List ℕ) (n : ℕ) → is_some (behind key (take n text)) ≡ true →
    is_some (behind key text) ≡ true
begins_less key text n e = go (bytes_eq (take (length key) (take n text)) key) refl e
  where
    go : (b : Bool) → bytes_eq (take (length key) (take n text)) key ≡ b →
        is_some (if b then Some (drop (length key) (take n text)) else None) ≡ true → is_some (behind key text) ≡ true
    go true same is =
        let whole : take (length key) text ≡ key = longer key text n ((bytes_eq-Decides (take (length key) (take n text)) key).0 same) in
        rw ((bytes_eq-Decides (take (length key) text) key).1 whole) refl
    go false same is = absurd cc

either_less : (a b c d : Bool) → (a ≡ true → c ≡ true) → (b ≡ true → d ≡ true) →
    (a || b) ≡ true → (c || d) ≡ true
either_less true b c d f g e = rw (f refl) refl
either_less false true true d f g e = refl
either_less false true false d f g e = g refl
either_less false false c d f g e = absurd cc

mark_less : (text : List ℕ) (n : ℕ) → is_mark (take n text) ≡ true → is_mark text ≡ true
mark_less text n =
    let less = λ (key : List ℕ). begins_less key text n in
    either_less _ _ _ _ (either_less _ _ _ _ (either_less _ _ _ _ (less (codes "complete:")) (less (codes "handle:"))) (less (codes "core"))) (less (codes "ohci"))

unmarked_tail : (c : ℕ) (cs : List ℕ) → Unmarked (c ∷ cs) → Unmarked cs
unmarked_tail c cs h = go (c == 95) (is_mark cs) h
  where
    go : (a b : Bool) → (if a then (if b then true else has_mark cs) else has_mark cs) ≡ false → Unmarked cs
    go true true e = absurd cc
    go true false e = e
    go false b e = e

unmarked_more : (c : ℕ) (cs front : List ℕ) → (is_mark front ≡ true → is_mark cs ≡ true) → Unmarked front →
    Unmarked (c ∷ cs) → Unmarked (c ∷ front)
unmarked_more c cs front less h whole = go (c == 95) (is_mark front) (is_mark cs) less whole
  where
    go : (a b d : Bool) → (b ≡ true → d ≡ true) → (if a then (if d then true else has_mark cs) else has_mark cs) ≡ false →
        (if a then (if b then true else has_mark front) else has_mark front) ≡ false
    go false b d f e = h
    go true false d f e = h
    go true true true f e = absurd cc
    go true true false f e = absurd (false≢true (f refl))

unmarked_take : (text : List ℕ) (n : ℕ) → Unmarked text → Unmarked (take n text)
unmarked_take text zero h = refl
unmarked_take [] (suc n) h = refl
unmarked_take (c ∷ cs) (suc n) h =
    unmarked_more c cs (take n cs) (mark_less cs n) (unmarked_take cs n (unmarked_tail c cs h)) h

unmarked_drop : (text : List ℕ) (n : ℕ) → Unmarked text → Unmarked (drop n text)
unmarked_drop text zero h = h
unmarked_drop [] (suc n) h = refl
unmarked_drop (c ∷ cs) (suc n) h = unmarked_drop cs n (unmarked_tail c cs h)

-- ---- the words of an unmarked line

-- the first part of a line is a front of it
abbrev FirstPart : List ℕ → List (List ℕ) → Type 0
FirstPart line parts = (n : ℕ) × (rest : List (List ℕ)) × (parts ≡ take n line ∷ rest) × All Unmarked rest

parts_of : (line : List ℕ) → Unmarked line → FirstPart line (slice_split is_blank line)
parts_of [] h = (0, [], refl, All-nil Unmarked)
parts_of (c ∷ cs) h = go (is_blank c) (parts_of cs (unmarked_tail c cs h))
  where
    go : (b : Bool) → FirstPart cs (slice_split is_blank cs) →
        FirstPart (c ∷ cs) (cond b ([] ∷ slice_split is_blank cs) (onto_first c (slice_split is_blank cs)))
    go true p = (0, take p.0 cs ∷ p.1, ap (λ (ps : List (List ℕ)). [] ∷ ps) p.2, All-cons Unmarked (take p.0 cs) p.1 (unmarked_take cs p.0 (unmarked_tail c cs h)) p.3)
    go false p = (suc p.0, p.1, ap (onto_first c) p.2, p.3)

pub unmarked_words : (line : List ℕ) → Unmarked line → All Unmarked (words_of line)
unfolding words_by
unmarked_words line h =
    let p = parts_of line h in
    All-filter is_some_text Unmarked (slice_split is_blank line)
    (subst (λ (ps : List (List ℕ)). All Unmarked ps) (sym p.2) (All-cons Unmarked (take p.0 line) p.1 (unmarked_take line p.0 h) p.3))

-- ---- no event, and no driver's name

not_named : (word name : List ℕ) → has_mark name ≡ true → Unmarked word → bytes_eq word name ≡ false
not_named word name marked h = go (bytes_eq word name) refl
  where
    go : (b : Bool) → bytes_eq word name ≡ b → b ≡ false
    go false e = refl
    go true e =
        let same : word ≡ name = (bytes_eq-Decides word name).0 e in
        absurd (false≢true (sym h ∙ ap has_mark same ∙ marked))

no_event : (word : List ℕ) → Unmarked word → event_of word ≡ None
no_event word h =
    rw (
      not_named word (codes "self_id_complete:") refl h,
      not_named word (codes "firewire_ohci:self_id_complete:") refl h,
      not_named word (codes "bus_reset_handle:") refl h,
      not_named word (codes "firewire:bus_reset_handle:") refl h,
    ) refl

no_driver : (word : List ℕ) → Unmarked word → is_driver word ≡ false
no_driver word h =
    let end = unmarked_drop word (length word - 14) h in
    rw (
      not_named word (codes "firewire_core") refl h,
      not_named word (codes "firewire_ohci") refl h,
      not_named _ (codes ";firewire_core") refl end,
      not_named _ (codes ";firewire_ohci") refl end,
      not_named word (codes "MESSAGE=firewire_core") refl h,
      not_named word (codes "MESSAGE=firewire_ohci") refl h,
    ) refl

no_name : (time : Option ℕ) (words : List (List ℕ)) → All Unmarked words → named time words ≡ None
no_name time [] h = refl
no_name time (word ∷ words) h =
    rw (no_event word (All-head Unmarked word words h), named) (no_name (or_time (time_of word) time) words (All-tail Unmarked word words h))

none_driven : (time : Option ℕ) (words : List (List ℕ)) → All Unmarked words → driver time words ≡ None
none_driven time [] h = refl
none_driven time (word ∷ words) h =
    rw (no_driver word (All-head Unmarked word words h)) (none_driven (or_time (front_time word) time) words (All-tail Unmarked word words h))

-- ---- no lost events

apart : (t : Bool) → (t ≡ true → ⊥) → t ≡ false
apart true ne = absurd (ne refl)
apart false ne = refl

not_first : (c : ℕ) (p : List ℕ) → (c == 67) ≡ false → is_some (behind (codes "CPU:") (c ∷ p)) ≡ false
not_first c p e = go (bytes_eq (take 4 (c ∷ p)) (codes "CPU:")) refl
  where
    go : (b : Bool) → bytes_eq (take 4 (c ∷ p)) (codes "CPU:") ≡ b →
        is_some (if b then Some (drop 4 (c ∷ p)) else None) ≡ false
    go false same = refl
    go true same =
        let all : c ∷ take 3 p ≡ 67 ∷ 80 ∷ 85 ∷ 58 ∷ [] = (bytes_eq-Decides (take 4 (c ∷ p)) (codes "CPU:")).0 same in
        let first : c ≡ 67 = cc in
        let wrong : true ≡ false = subst (λ (x : ℕ). (x == 67) ≡ false) first e in
        absurd cc

not_lost : (line : List ℕ) → begins_loss line ≡ false → is_lost (words_of line) ≡ false
unfolding words_by
not_lost [] h = refl
not_lost (c ∷ cs) h = go (is_blank c) (slice_split is_blank cs) h (not_lost cs)
  where
    first : (parts : List (List ℕ)) → (c == 67) ≡ false →
        is_lost (filter is_some_text (onto_first c parts)) ≡ false
    first [] e = ap is_lost (some_text c [] []) ∙ ap (λ (b : Bool). b && has_loss []) (not_first c [] e)
    first (p ∷ ps) e =
        ap is_lost (some_text c p ps) ∙ ap (λ (b : Bool). b && has_loss (filter is_some_text ps)) (not_first c p e)

    go : (b : Bool) (parts : List (List ℕ)) → (if b then begins_loss cs else c == 67) ≡ false →
        (begins_loss cs ≡ false → is_lost (filter is_some_text parts) ≡ false) →
        is_lost (filter is_some_text (cond b ([] ∷ parts) (onto_first c parts))) ≡ false
    go true parts e rest = rest e
    go false parts e rest = first parts e

-- ---- so it is none that is shown

pub passed_over : (line : List ℕ) → has_mark (take 65536 line) ≡ false → begins_loss (take 65536 line) ≡ false →
    line_of line ≡ Other
unfolding line_of
passed_over line unmarked unlost =
    let words = unmarked_words (take 65536 line) unmarked in
    rw (
      no_name None (words_of (take 65536 line)) words,
      not_lost (take 65536 line) unlost,
      none_driven None (words_of (take 65536 line)) words,
    ) refl

pub nothing_shown : (line : List ℕ) → length line ≤ 65536 → has_mark line ≡ false →
    begins_loss line ≡ false → line_of line ≡ Other
nothing_shown line few unmarked unlost =
    let whole : line ≡ take 65536 line = sym (take_all 65536 line few) in
    passed_over line (subst (λ (l : List ℕ). has_mark l ≡ false) whole unmarked)
    (subst (λ (l : List ℕ). begins_loss l ≡ false) whole unlost)

-- ---- the lines of an unmarked text

-- a test that is passed where there is none
pub no_mark : (marked found : Bool) → found ≡ marked → not found ≡ true → marked ≡ false
no_mark true true e h = absurd cc
no_mark true false e h = absurd cc
no_mark false found e h = refl

pub unmarked_line : (text line behind : List ℕ) → text ≡ line ++ 10 ∷ behind → Unmarked text →
    Unmarked line
unmarked_line text line behind e h =
    let whole : Unmarked (line ++ 10 ∷ behind) = subst Unmarked e h in
    subst Unmarked (take_at line (10 ∷ behind) (length line) refl)
    (unmarked_take (line ++ 10 ∷ behind) (length line) whole)

pub unmarked_behind : (text line behind : List ℕ) → text ≡ line ++ 10 ∷ behind → Unmarked text →
    Unmarked behind
unmarked_behind text line behind e h = go line (subst Unmarked e h)
  where
    go : (first : List ℕ) → Unmarked (first ++ 10 ∷ behind) → Unmarked behind
    go [] whole = unmarked_tail 10 behind whole
    go (c ∷ cs) whole = go cs (unmarked_tail c (cs ++ 10 ∷ behind) whole)

-- ---- going over the underscores

pub no_underscore : (text : List ℕ) → Nowhere (Passes (is_byte 95) text) 0 (length text) → Unmarked text
no_underscore [] none = refl
no_underscore (c ∷ cs) none =
    rw (apart (c == 95) (λ is. none 0 (omega arith) (omega arith) is))
    (no_underscore cs (λ k low high is. none (suc k) (omega arith) (omega (arith, high)) is))

pub first_underscore : (text : List ℕ) (at : ℕ) → at < length text → Nowhere (Passes (is_byte 95) text) 0 at →
    Passes (is_byte 95) text at →
    has_mark text ≡ (if is_mark (drop (at + 1) text) then true else has_mark (drop (at + 1) text))
first_underscore [] at few none is = absurd (omega (arith, few))
first_underscore (c ∷ cs) zero few none is = rw is refl
first_underscore (c ∷ cs) (suc at) few none is =
    let next : suc at + 1 ≡ suc (at + 1) = omega arith in
    rw (next, apart (c == 95) (λ here. none 0 (omega arith) (omega arith) here))
    (first_underscore cs at (omega (arith, few)) (λ k low high here. none (suc k) (omega arith) (omega (arith, high)) here) is)

-- ---- a test of both

pub neither : (a b : Bool) → (a || b) ≡ false → (a ≡ false) × (b ≡ false)
neither true b e = absurd cc
neither false b e = (refl, e)

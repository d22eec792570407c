-- What stands at places of a text, one behind the other.
use Rattle.std.proofs.Common.{◌≡◌, ℕ, ◌+◌, ◌-◌, ◌≤◌, List, ◌++◌, length, drop, append_assoc, length-append, refl, ap, sym, subst, ◌∙◌, arith}
use Rattle.std.specs.List.{slice_range}
use Rattle.std.proofs.lemmas.List.{drop_at, drop-drop, length-drop, length-take-le, take_at}
use Rattle.std.proofs.lemmas.List.Folds.{drop_split}
use Rattle.trace_event.specs.Stands.{Stands}

-- two words
pub both : {text : List ℕ} {at mid next : ℕ} {v w : List ℕ} →
    Stands text at v mid → Stands text mid w next → Stands text at (v ++ w) next
both {text} {at} {mid} {next} {v} {w} first second = record {
  is = first.is ∙ ap (λ (rest : List ℕ). v ++ rest) second.is ∙ sym (append_assoc v w (drop next text));
  next_is = omega (arith, first.next_is, second.next_is, length-append v w);
  inside = second.inside;
}

-- what a text has from one place to another
pub between : (text : List ℕ) (at next : ℕ) (word : List ℕ) → at ≤ next → next ≤ length text →
    slice_range text at next ≡ word → Stands text at word next
between text at next word order inside same =
    let rest : length (drop at text) ≡ length text - at = length-drop at text in
    let few : next - at ≤ length (drop at text) = omega (arith, rest, order, inside) in
    let count : length (slice_range text at next) ≡ next - at = length-take-le (next - at) (drop at text) few in
    record {
      is = drop_split text at next order ∙ ap (λ (front : List ℕ). front ++ drop next text) same;
      next_is = omega (arith, order, inside, ap length same, count);
      inside = inside;
    }

-- ---- one word behind another

-- what stands behind a word
pub behind : {text : List ℕ} {at next : ℕ} (v w : List ℕ) → Stands text at (v ++ w) next →
    Stands text (at + length v) w next
behind {text} {at} {next} v w whole = record {
  is = sym (drop-drop (length v) at text)
      ∙ (ap (λ (rest : List ℕ). drop (length v) rest) (whole.is ∙ append_assoc v w (drop next text))
      ∙ drop_at v (w ++ drop next text) (length v) refl);
  next_is = omega (arith, whole.next_is, length-append v w);
  inside = whole.inside;
}

-- the same where the word is found
pub go_on : {text : List ℕ} {at mid next : ℕ} {v : List ℕ} (w : List ℕ) → Stands text at v mid →
    Stands text at (v ++ w) next → Stands text mid w next
go_on {text} {at} {mid} {next} {v} w first whole =
    subst (λ (k : ℕ). Stands text k w next) (sym first.next_is) (behind v w whole)

-- three words in a row
pub row : {text : List ℕ} {at next : ℕ} (u v w : List ℕ) → Stands text at ((u ++ v) ++ w) next →
    Stands text at (u ++ (v ++ w)) next
row {text} {at} {next} u v w whole = subst (λ (word : List ℕ). Stands text at word next) (append_assoc u v w) whole

-- there is room for the word
pub has_room : {text : List ℕ} {at next : ℕ} (v w : List ℕ) → Stands text at (v ++ w) next →
    at + length v ≤ length text
has_room {text} {at} {next} v w whole = omega (arith, whole.next_is, whole.inside, length-append v w)

-- and it is read
pub reads : {text : List ℕ} {at next : ℕ} (v w : List ℕ) → Stands text at (v ++ w) next →
    slice_range text at (at + length v) ≡ v
reads {text} {at} {next} v w whole =
    let count : (at + length v) - at ≡ length v = omega arith in
    rw (count, whole.is, append_assoc v w (drop next text)) (take_at v (w ++ drop next text) (length v) refl)

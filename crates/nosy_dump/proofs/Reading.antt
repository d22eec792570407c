-- A dump as its reader goes over it, to the end.
use Rattle.std.proofs.Common.{◌≡◌, ◌∙◌, ℕ, ◌+◌, ◌-◌, ◌<◌, ◌≤◌, Bool, false, Result, Ok, Err, Option, Some, None, List, [], ◌++◌, length, refl, sym, ap, subst, append_assoc, append-nil, length-append, arith}
use Rattle.std.specs.Prelude.{IfSome, IfOk, OnErr}
use Rattle.std.specs.Io.KnownBytes.{Consumes, Keeps, IsAtEnd}
use Rattle.io_edges.specs.Told.{StayTold}
use Rattle.reset_list.specs.declared.form.LogForm.{LogForm}
use Rattle.reset_list.proofs.Lemmas.{consumes_then, nothing_came, all_came, still_came}
use Rattle.nosy_dump.specs.declared.dump.DumpReader.{DumpReader}
use Rattle.nosy_dump.specs.declared.record.DumpFault.{DumpFault}
use Rattle.nosy_dump.specs.declared.record.DumpFault.TheVariants.{BadLength}
use Rattle.nosy_dump.specs.Record.{IsOpen, EndsSo}
use Rattle.nosy_dump.specs.Dump.{IsDumpShown, IsBegunWritten}
use Rattle.nosy_dump.specs.codings.Going.{IsNew, Knows, Goes, Writes, WritesAsJson, ReadsDump}
use Rattle.nosy_dump.proofs.AsJson.{write_none, write_both}
use Rattle.nosy_dump.proofs.Going.{at_start, holds_written, front_ends, begun}

pub at_first : {K : Type 0} {w : K → Option (List ℕ)} {f : K → ℕ} {t : K → ℕ → Type 0}
    (r : DumpReader) (form : LogForm) (first : Option (List ℕ)) (was : K) (a : ℕ) →
    IsNew r → r.form ≡ form → ReadsDump w f t r form first first was was a a
at_first r form first was a new same = record {
  done = [];
  came = nothing_came first;
  told = refl;
  stands = at_start r was new;
  small = omega arith;
  same = same;
  later = omega arith;
  wrote_later = omega arith;
  json = write_none form _;
}

-- there is room for a piece
pub room : {K : Type 0} {w : K → Option (List ℕ)} {f : K → ℕ} {t : K → ℕ → Type 0} (r : DumpReader)
    (form : LogForm) (first now : Option (List ℕ)) (was is : K) (a b : ℕ) (piece : List ℕ) →
    (h : ReadsDump w f t r form first now was is a b) →
    length piece ≤ 9223372036854775807 - r.taken →
    length h.done + length piece ≤ 9223372036854775807
room r form first now was is a b piece h fits = omega (arith, h.stands.is.taken_is, fits, h.small)

pub reads_on : {K : Type 0} {w : K → Option (List ℕ)} {f : K → ℕ} {t : K → ℕ → Type 0}
    (r s : DumpReader) (form : LogForm) (first now next : Option (List ℕ)) (was is will : K)
    (a b c : ℕ) (piece : List ℕ) →
    ReadsDump w f t r form first now was is a b → Consumes now next piece → StayTold now next →
    length piece ≤ 9223372036854775807 - r.taken →
    ((done : List ℕ) (start : K) → length done + length piece ≤ 9223372036854775807 →
    Writes w f t (Knows IsOpen r done) start is → Writes w f t (Goes None s (done ++ piece))
    start will) →
    s.form ≡ r.form → b ≤ c → f is ≤ f will → WritesAsJson r.form (w is) (w will) →
    ReadsDump w f t s form first next was will a c
reads_on {w = w} {f = f} {t = t} r s form first now next was is will a b c piece h came told fits
    taken same later wrote json =
    let fit = room r form first now was is a b piece h fits in
    let on : Writes w f t (Knows IsOpen s (h.done ++ piece)) was will =
    taken h.done was fit h.stands in
    record {
      done = h.done ++ piece;
      came = consumes_then first now next h.done piece h.told h.came came;
      told = told ∙ h.told;
      stands = on;
      small = omega (arith, fit, length-append h.done piece);
      same = same ∙ h.same;
      later = omega (arith, h.later, later);
      wrote_later = omega (arith, h.wrote_later, wrote);
      json = write_both form r.form _ _ _ h.same h.json json;
    }

-- each piece leaves less room
pub less_room : {K : Type 0} {w : K → Option (List ℕ)} {f : K → ℕ} {t : K → ℕ → Type 0}
    (r s : DumpReader) (form : LogForm) (first now : Option (List ℕ)) (was is will : K) (a b : ℕ)
    (piece : List ℕ) →
    ReadsDump w f t r form first now was is a b → 0 < length piece →
    length piece ≤ 9223372036854775807 - r.taken →
    ((done : List ℕ) (start : K) → length done + length piece ≤ 9223372036854775807 →
    Writes w f t (Knows IsOpen r done) start is → Writes w f t (Goes None s (done ++ piece))
    start will) →
    9223372036854775807 - s.taken < 9223372036854775807 - r.taken
less_room {w = w} {f = f} {t = t} r s form first now was is will a b piece h some fits taken =
    let fit = room r form first now was is a b piece h fits in
    let on : Writes w f t (Knows IsOpen s (h.done ++ piece)) was will =
    taken h.done was fit h.stands in
    omega (arith, on.is.taken_is, h.stands.is.taken_is, length-append h.done piece, some, fits)

-- what is written at a read that fails
pub waited : {K : Type 0} {w : K → Option (List ℕ)} {f : K → ℕ} {t : K → ℕ → Type 0}
    (r : DumpReader) (form : LogForm) (first now next : Option (List ℕ)) (was is : K) (a b : ℕ) →
    ReadsDump w f t r form first now was is a b → Keeps now next →
    (read : List ℕ) × Consumes first next read × IsBegunWritten form (w was) (w is) read
waited {w = w} r form first now next was is a b h still = (
  h.done,
  still_came first now next h.done h.told h.came still,
  subst (λ (s : LogForm). IsBegunWritten s (w was) (w is) h.done) h.same
      (begun r h.done was is h.stands),
)

-- a fact on what is answered
pub map_ok : {A E : Type 0} (r : Result A E) (P Q : A → Type 0) → ((x : A) → P x → Q x) → IfOk r P →
    IfOk r Q
map_ok (Ok x) P Q f p = f x p
map_ok (Err e) P Q f p = tt

pub map_err : {A E : Type 0} (r : Result A E) (P Q : Type 0) → (P → Q) → OnErr r P → OnErr r Q
map_err (Ok x) P Q f p = tt
map_err (Err e) P Q f p = f p

-- a fault was said, so the answer isn't that all was well
pub not_well : (bad : Bool) (fault : DumpFault) (P : Type 0) → (bad ≡ false → Some fault ≡ None) →
    bad ≡ false → P
not_well bad fault P f e = let none : Some fault ≡ None = f e in absurd cc

-- ---- at the end

pub whole : {K : Type 0} {w : K → Option (List ℕ)} {f : K → ℕ} {t : K → ℕ → Type 0} (r : DumpReader)
    (form : LogForm) (first now next : Option (List ℕ)) (was is will : K) (a b : ℕ)
    (fault : Option DumpFault) (bad : Bool) →
    ReadsDump w f t r form first now was is a b → Consumes now next [] → IsAtEnd next →
    (IsOpen r.part.items → EndsSo (r.part.items ++ []) fault) →
    ((done more : List ℕ) (start : K) → length done ≤ 9223372036854775807 →
    Writes w f t (Knows (λ bytes. EndsSo (bytes ++ more) fault) r done) start is →
    Writes w f t (λ text. IsDumpShown r.form (done ++ more) text bad) start will) →
    IfSome first (λ dump. Writes w f t (λ text. IsDumpShown form dump text bad) was will)
whole {w = w} {f = f} {t = t} r form first now next was is will a b fault bad h none end fit then =
    let ended = then h.done [] was h.small (holds_written IsOpen
    (λ bytes. EndsSo (bytes ++ []) fault) r h.done was is fit h.stands) in
    all_came first now next h.done (λ dump. Writes w f t (λ text. IsDumpShown form dump text bad)
    was will) h.came h.told none end
    (subst (λ (s : LogForm). Writes w f t (λ text. IsDumpShown s h.done text bad) was will) h.same
    (subst (λ (d : List ℕ). Writes w f t (λ text. IsDumpShown r.form d text bad) was will)
    (append-nil h.done) ended))

pub dump_left : (first now next : Option (List ℕ)) (xs ys : List ℕ) (P : List ℕ → Type 0) →
    Consumes first now xs → Consumes now next ys → StayTold first now → StayTold now next →
    ((left : List ℕ) → P ((xs ++ ys) ++ left)) → IfSome first P
dump_left None now next xs ys P p q told still each = tt
dump_left (Some x) None next xs ys P p q told still each = absurd p
dump_left (Some x) (Some y) None xs ys P p q told still each = absurd q
dump_left (Some x) (Some y) (Some z) xs ys P p q told still each =
    subst P (sym (p ∙ ap (λ (w : List ℕ). xs ++ w) q ∙ sym (append_assoc xs ys z))) (each z)

pub cut_off : {K : Type 0} {w : K → Option (List ℕ)} {f : K → ℕ} {t : K → ℕ → Type 0}
    (r s : DumpReader) (form : LogForm) (first now next : Option (List ℕ)) (was is mid will : K)
    (a b : ℕ) (piece : List ℕ) (size : ℕ) (bad : Bool) →
    ReadsDump w f t r form first now was is a b → Consumes now next piece → StayTold now next →
    length piece ≤ 9223372036854775807 - r.taken →
    ((done : List ℕ) (start : K) → length done + length piece ≤ 9223372036854775807 →
    Writes w f t (Knows IsOpen r done) start is →
    Writes w f t (Goes (Some size) s (done ++ piece)) start mid) →
    s.form ≡ r.form →
    ((done more : List ℕ) (start : K) → length done ≤ 9223372036854775807 →
    Writes w f t (Knows (λ bytes. EndsSo (bytes ++ more) (Some (BadLength size))) s done) start
    mid → Writes w f t (λ text. IsDumpShown s.form (done ++ more) text bad) start will) →
    IfSome first (λ dump. Writes w f t (λ text. IsDumpShown form dump text bad) was will)
cut_off {w = w} {f = f} {t = t} r s form first now next was is mid will a b piece size bad h came
    told fits taken same then =
    let fit = room r form first now was is a b piece h fits in
    let goes = taken h.done was fit h.stands in
    let small : length goes.is.0 ≤ 9223372036854775807 =
    omega (
      arith,
      fit,
      length-append h.done piece,
      ap (λ (l : List ℕ). length l) goes.is.2,
      length-append goes.is.0 goes.is.1,
    ) in
    dump_left first now next h.done piece (λ dump. Writes w f t
    (λ text. IsDumpShown form dump text bad) was will) h.came came h.told told
    (λ left.
    subst (λ (k : LogForm). Writes w f t (λ text. IsDumpShown k ((h.done ++ piece) ++ left) text
    bad) was will) (same ∙ h.same)
    (subst (λ (l : List ℕ). Writes w f t (λ text. IsDumpShown s.form l text bad) was will)
    (sym (ap (λ (l : List ℕ). l ++ left) goes.is.2 ∙ append_assoc goes.is.0 goes.is.1 left))
    (then goes.is.0 (goes.is.1 ++ left) was small
    (front_ends s (h.done ++ piece) left size was mid goes))))

-- What stands written where a dump wasn't shown to its end: the front of its text.
use Rattle.std.proofs.Common.{◌≡◌, ◌∙◌, ℕ, ◌+◌, ◌-◌, ◌≤◌, Bool, Option, Some, None, Result, Ok, Err, List, [], ◌∷◌, ◌++◌, length, refl, sym, ap, subst, append_assoc, append-nil, length-append, arith}
use Rattle.std.specs.Prelude.{IfSome, IfOk, IfErr, OnErr}
use Rattle.std.specs.Io.KnownBytes.{Appends, Consumes, IsAtEnd}
use Rattle.io_edges.specs.Faults.{Rose}
use Rattle.io_edges.specs.Told.{StayTold}
use Rattle.reset_list.specs.declared.form.LogForm.{LogForm}
use Rattle.reset_list.specs.declared.stop.LogStop.{LogStop}
use Rattle.reset_list.specs.InOrder.{AreTold}
use Rattle.reset_list.specs.Cause.{StoppedWriting}
use Rattle.reset_list.specs.Answered.{IsExact, IsComplete}
use Rattle.reset_list.specs.Wrote.{Wrote, WroteFront, WroteFrontOf}
use Rattle.reset_list.proofs.Lemmas.{told_once, told_first, wrote_then, front_then, front_more, front_whole, all_came, log_left, exact_of, complete_of}
use Rattle.nosy_dump.specs.declared.dump.DumpReader.{DumpReader}
use Rattle.nosy_dump.specs.declared.record.Record.{Record}
use Rattle.nosy_dump.specs.declared.record.Record.TheVariants.{Reset, SelfId, Other}
use Rattle.nosy_dump.specs.declared.record.DumpReset.{DumpReset}
use Rattle.nosy_dump.specs.declared.record.DumpFault.{DumpFault}
use Rattle.nosy_dump.specs.declared.record.DumpFault.TheVariants.{BadLength}
use Rattle.nosy_dump.specs.Record.{dump_of, AreSized, record_of, IsOpen, EndsSo}
use Rattle.nosy_dump.specs.Resets.{resets_from}
use Rattle.nosy_dump.specs.Noted.{Noted, nothing}
use Rattle.nosy_dump.specs.Notes.{noted}
use Rattle.nosy_dump.specs.Dump.{last_text, IsResetShown, IsDumpShown, IsDumpWritten}
use Rattle.nosy_dump.specs.codings.Going.{AreResets, Knows, HasBadLength, ShowsBy, Stays, Goes, Opens, Leads, Writes, ReadsDump}
use Rattle.nosy_dump.proofs.Records.{resets_other, resets_reset, resets_packet, fresh, last_with}
use Rattle.nosy_dump.proofs.OneText.{front_records, one_parting, same_reset, one_text}
use Rattle.nosy_dump.proofs.Going.{shown_now, holds_written, front_ends}
use Rattle.nosy_dump.proofs.Reading.{room, dump_left, map_ok, map_err}

-- the last of these resets is none of the first, so that further packets leave them as they are
abbrev pub Solid : List DumpReset → List DumpReset → Type 0
Solid [] others = Unit {0}
Solid (r ∷ rs) [] = ⊥
Solid (r ∷ rs) (p ∷ ps) = Unit {0}

-- ---- resets in front stay

solid_more : (first others : List DumpReset) (p : DumpReset) → Solid first (others ++ p ∷ [])
solid_more [] others p = tt
solid_more (x ∷ xs) [] p = tt
solid_more (x ∷ xs) (y ∷ ys) p = tt

last_some : (p : DumpReset) (ps : List DumpReset) (quad : ℕ) (first : List DumpReset) →
    Solid first (last_with quad (p ∷ ps))
last_some p ps quad [] = tt
last_some p [] quad (x ∷ xs) = tt
last_some p (q ∷ ps) quad (x ∷ xs) = tt

last_ahead : (first : List DumpReset) (p : DumpReset) (ps : List DumpReset) (quad : ℕ) →
    last_with quad (first ++ p ∷ ps) ≡ first ++ last_with quad (p ∷ ps)
last_ahead [] p ps quad = refl
last_ahead (x ∷ []) p ps quad = refl
last_ahead (x ∷ y ∷ ys) p ps quad = ap (λ (l : List DumpReset). x ∷ l)
    (last_ahead (y ∷ ys) p ps quad)

-- of further records these are the resets behind those in front
pub record GoOn (first all : List DumpReset) : Type 0 where
  pub others : List DumpReset
  pub all_are : all ≡ first ++ others
  pub solid : Solid first others

with_packet : (first others all : List DumpReset) (quad : ℕ) → all ≡ first ++ others →
    Solid first others → GoOn first (last_with quad all)
with_packet [] others all quad e h = record {
  others = last_with quad others;
  all_are =
      ap (last_with quad) e;
  solid = tt;
}
with_packet (x ∷ xs) [] all quad e h = absurd h
with_packet (x ∷ xs) (p ∷ ps) all quad e h = record {
  others = last_with quad (p ∷ ps);
  all_are = ap (last_with quad) e ∙ last_ahead (x ∷ xs) p ps quad;
  solid = last_some p ps quad (x ∷ xs);
}

one_later : (rs : List (List ℕ)) (m : List ℕ) (first : List DumpReset) →
    GoOn first (resets_from 0 rs) →
    GoOn first (resets_from 0 (rs ++ m ∷ []))
one_later rs m first h = go (record_of m) refl
  where
    go : (k : Record) → record_of m ≡ k → GoOn first (resets_from 0 (rs ++ m ∷ []))
    go (Reset time) e =
        let more = resets_reset 0 rs m time (0 + length (dump_of rs)) e refl in
        record {
          others = h.others ++ fresh (0 + length (dump_of rs)) time ∷ [];
          all_are =
              more ∙ ap (λ (l : List DumpReset). l ++ fresh (0 + length (dump_of rs)) time ∷ [])
              h.all_are
              ∙ append_assoc first h.others (fresh (0 + length (dump_of rs)) time ∷ []);
          solid = solid_more first h.others (fresh (0 + length (dump_of rs)) time);
        }
    go (SelfId quad) e = subst (λ (l : List DumpReset). GoOn first l)
        (sym (resets_packet 0 rs m quad e)) (with_packet first h.others (resets_from 0 rs) quad
        h.all_are h.solid)
    go Other e = subst (λ (l : List DumpReset). GoOn first l) (sym (resets_other 0 rs m e)) h

later : (rs more : List (List ℕ)) (first : List DumpReset) → GoOn first (resets_from 0 rs) →
    GoOn first (resets_from 0 (rs ++ more))
later rs [] first h = subst (λ (l : List (List ℕ)). GoOn first (resets_from 0 l))
    (sym (append-nil rs)) h
later rs (m ∷ more) first h =
    subst (λ (l : List (List ℕ)). GoOn first (resets_from 0 l)) (append_assoc rs (m ∷ []) more)
    (later (rs ++ m ∷ []) more first (one_later rs m first h))

-- ---- a front of a dump

-- what was told of the first resets stands in front of the text
first_text : (form : LogForm) (records : List (List ℕ)) (first others : List DumpReset)
    (text all : List ℕ) (b c : Bool) (t u : Noted) →
    AreTold (IsResetShown form) 1 nothing first text b t →
    resets_from 0 records ≡ first ++ others →
    AreTold (IsResetShown form) 1 nothing (resets_from 0 records) all c u →
    (behind : List ℕ) × (all ≡ text ++ behind)
first_text form records first others text all b c t u told is whole =
    let f = told_first (IsResetShown form) 1 nothing u first others all c
    (subst (λ (l : List DumpReset). AreTold (IsResetShown form) 1 nothing l all c u) is
    whole) in
    let same =
    told_once (IsResetShown form) (λ n s r e g h k p q. same_reset form n s r e g h k p q) 1 nothing
    first f.0 text f.2 b f.3 t f.4 told
    in (f.1, f.5 ∙ ap (λ (l : List ℕ). l ++ f.1) same.0)

waits_behind : (records : List (List ℕ)) (ended : List DumpReset) (pending : Option DumpReset) →
    AreResets records ended pending → GoOn ended (resets_from 0 records)
waits_behind records ended None are = record {
  others = [];
  all_are = are.0 ∙ sym are.1
      ∙ sym (append-nil ended);
  solid = none ended are.1;
}
  where
    none : (l : List DumpReset) → l ≡ [] → Solid l []
    none [] e = tt
    none (x ∷ xs) e = absurd cc
waits_behind records ended (Some p) are = record {
  others = p ∷ [];
  all_are = are;
  solid =
      some ended;
}
  where
    some : (l : List DumpReset) → Solid l (p ∷ [])
    some [] = tt
    some (x ∷ xs) = tt

-- all resets were shown that another one followed
pub leads : (Holds : List ℕ → Type 0) (r : DumpReader) (done text : List ℕ) →
    Knows Holds r done text → Leads r.form done text
leads Holds r done text st left all bad is =
    let waits = waits_behind st.records st.ended r.pending st.resets_are in
    let h = front_records st.records is.records (r.part.items ++ left) is.rest is.fault st.sized
    is.sized is.ends
    (sym (append_assoc (dump_of st.records) r.part.items left) ∙ ap (λ (l : List ℕ). l ++ left)
    (sym st.done_is) ∙ is.dump_is)
    in
    let on = later st.records h.0 st.ended waits in
    let first = first_text r.form is.records st.ended on.others text is.resets_text r.bad
    is.is_refused (noted r.notes) is.known st.told (ap (resets_from 0) h.1 ∙ on.all_are)
    is.told in
    let last = last_text r.form (length (dump_of is.records)) is.fault is.known in (
      first.0 ++ last,
      is.text_is ∙ ap (λ (l : List ℕ). l ++ last) first.1
          ∙ append_assoc text first.0 last,
    )

pub leads_more : (form : LogForm) (done more all text : List ℕ) → all ≡ done ++ more →
    Leads form done text → Leads form all text
leads_more form done more all text is h left =
    subst (λ (l : List ℕ). Opens form l text)
    (sym (ap (λ (l : List ℕ). l ++ left) is ∙ append_assoc done more left)) (h (more ++ left))

pub leads_stays : (size : Option ℕ) (r : DumpReader) (done text : List ℕ) → Stays size r done text →
    Leads r.form done text
leads_stays None r done text st = leads IsOpen r done text st
leads_stays (Some size) r done text st = leads (HasBadLength size) r done text st

-- ---- at the end

-- what is told of the first resets of a dump
opens : (form : LogForm) (dump rest text : List ℕ) (records : List (List ℕ))
    (fault : Option DumpFault) (first others : List DumpReset) (b : Bool) (t : Noted) →
    dump ≡ dump_of records ++ rest → AreSized records → EndsSo rest fault →
    resets_from 0 records ≡ first ++ others → AreTold (IsResetShown form) 1 nothing first text b t →
    Opens form dump text
opens form dump rest text records fault first others b t is sized ends are told all bad shown =
    let same = one_parting records shown.records rest shown.rest fault shown.fault sized shown.sized
    ends shown.ends (sym is ∙ shown.dump_is) in
    let front = first_text form shown.records first others text shown.resets_text b shown.is_refused
    t shown.known told (ap (resets_from 0) (sym same.records) ∙ are) shown.told in
    let last = last_text form (length (dump_of shown.records)) shown.fault shown.known in (
      front.0 ++ last,
      shown.text_is ∙ ap (λ (l : List ℕ). l ++ last) front.1
          ∙ append_assoc text front.0 last,
    )

ends_behind : (old : DumpReader) (done more text : List ℕ) (fault : Option DumpFault) →
    (st : Knows (λ bytes. EndsSo (bytes ++ more) fault) old done text) →
    done ++ more ≡ dump_of st.records ++ (old.part.items ++ more)
ends_behind old done more text fault st =
    ap (λ (l : List ℕ). l ++ more) st.done_is ∙ append_assoc (dump_of st.records) old.part.items
    more

-- the reset that waits wasn't shown
pub opens_first : (old : DumpReader) (done more text : List ℕ) (fault : Option DumpFault) →
    Knows (λ bytes. EndsSo (bytes ++ more) fault) old done text → Opens old.form (done ++ more) text
opens_first old done more text fault st =
    let waits = waits_behind st.records st.ended old.pending st.resets_are in
    opens old.form (done ++ more) (old.part.items ++ more) text st.records fault st.ended
    waits.others old.bad (noted old.notes)
    (ends_behind old done more text fault st) st.sized st.holds waits.all_are st.told

-- all resets were shown
pub opens_all : (old : DumpReader) (done more text was is : List ℕ) (fault : Option DumpFault)
    (m : ℕ) (u : Noted) (c : Bool) →
    Knows (λ bytes. EndsSo (bytes ++ more) fault) old done (text ++ was) →
    length done ≤ 9223372036854775807 →
    ShowsBy old.form old.pending old.number (noted old.notes) old.bad m u c was is →
    Opens old.form (done ++ more) (text ++ is)
opens_all old done more text was is fault m u c st few shows =
    let all = shown_now (λ bytes. EndsSo (bytes ++ more) fault) old done text was is m u c st few
    shows in
    opens old.form (done ++ more) (old.part.items ++ more) (text ++ is) st.records fault
    (resets_from 0 st.records) [] c u
    (ends_behind old done more (text ++ was) fault st) st.sized st.holds
    (sym (append-nil (resets_from 0 st.records))) all.told

-- all was told
pub opens_whole : (form : LogForm) (dump text : List ℕ) (bad : Bool) →
    IsDumpShown form dump text bad →
    Opens form dump text
opens_whole form dump text bad is all other shown =
    ([], (one_text form dump all text other bad shown is).0 ∙ sym (append-nil text))

-- ---- what was gathered is written

-- what is known where nothing is gathered
pub none_gathered : (Holds : List ℕ → Type 0) (r : DumpReader) (done text none : List ℕ) →
    none ≡ [] →
    Knows Holds r done text → Knows Holds r done (text ++ none)
none_gathered Holds r done text none e st =
    subst (λ (l : List ℕ). Knows Holds r done l)
    (sym (ap (λ (l : List ℕ). text ++ l) e ∙ append-nil text)) st

pub writes_on : {K : Type 0} {w : K → Option (List ℕ)} {f : K → ℕ} {t : K → ℕ → Type 0}
    (Is : List ℕ → Type 0) (text more : List ℕ) (start was is : K) →
    Wrote w f t start was text → Wrote w f t was is more → Is (text ++ more) →
    Writes w f t Is start is
writes_on Is text more start was is wrote then holds = record {
  text = text ++ more;
  is = holds;
  wrote = wrote_then start was is text more wrote then;
}

-- the front of what was gathered
pub front_on : {K : Type 0} {w : K → Option (List ℕ)} {f : K → ℕ} {t : K → ℕ → Type 0}
    (form : LogForm) (dump text more : List ℕ) (start was is : K) →
    Wrote w f t start was text → WroteFront w f t was is more → Opens form dump (text ++ more) →
    WroteFrontOf w f t (IsDumpShown form dump) start is
front_on form dump text more start was is wrote part opens all bad shown =
    let o = opens all bad shown in
    front_more start is (text ++ more) o.0 all o.1 (front_then start was is text more wrote part)

-- all that was gathered
pub whole_on : {K : Type 0} {w : K → Option (List ℕ)} {f : K → ℕ} {t : K → ℕ → Type 0}
    (form : LogForm) (dump text more : List ℕ) (start was is : K) →
    Wrote w f t start was text → Wrote w f t was is more → Opens form dump (text ++ more) →
    WroteFrontOf w f t (IsDumpShown form dump) start is
whole_on form dump text more start was is wrote then opens =
    front_on form dump text more start was is wrote (front_whole was is more then) opens

-- ---- a call

-- what was written whole is a front too
front_all : {K : Type 0} {w : K → Option (List ℕ)} {f : K → ℕ} {t : K → ℕ → Type 0} (form : LogForm)
    (dump : List ℕ) (bad : Bool) (old new : K) →
    Writes w f t (λ text. IsDumpShown form dump text bad) old new →
    WroteFrontOf w f t (IsDumpShown form dump) old new
front_all {w = w} {f = f} {t = t} form dump bad old new all = λ text c is.
    let same = one_text form dump all.text text bad c all.is is in
    front_whole old new text (subst (λ (l : List ℕ). Wrote w f t old new l) same.0 all.wrote)

front_of : {K : Type 0} {w : K → Option (List ℕ)} {f : K → ℕ} {t : K → ℕ → Type 0} (r : DumpReader)
    (done left : List ℕ) (old new : K) →
    Writes w f t (Knows IsOpen r done) old new →
    WroteFrontOf w f t (IsDumpShown r.form (done ++ left)) old new
front_of r done left old new all = λ text bad is.
    let o = leads IsOpen r done all.text all.is left text bad is in
    front_more old new all.text o.0 text o.1 (front_whole old new all.text all.wrote)

-- no more was read
pub front_left : {K : Type 0} {w : K → Option (List ℕ)} {f : K → ℕ} {t : K → ℕ → Type 0}
    (r : DumpReader) (form : LogForm) (first now : Option (List ℕ)) (was is : K) (a b : ℕ) →
    ReadsDump w f t r form first now was is a b →
    IfSome first (λ dump. WroteFrontOf w f t (IsDumpShown form dump) was is)
front_left {w = w} {f = f} {t = t} r form first now was is a b h =
    log_left first now h.done (λ dump. WroteFrontOf w f t (IsDumpShown form dump) was is) h.came
    h.told
    (λ left.
    subst (λ (s : LogForm). WroteFrontOf w f t (IsDumpShown s (h.done ++ left)) was is) h.same
    (front_of r h.done left was is h.stands))

-- a piece wasn't shown whole
pub front_piece : {K : Type 0} {w : K → Option (List ℕ)} {f : K → ℕ} {t : K → ℕ → Type 0}
    (r : DumpReader) (form : LogForm) (first now next : Option (List ℕ)) (was is will : K) (a b : ℕ)
    (piece : List ℕ) →
    ReadsDump w f t r form first now was is a b → Consumes now next piece → StayTold now next →
    length piece ≤ 9223372036854775807 - r.taken →
    ((done left : List ℕ) (start : K) → length done + length piece ≤ 9223372036854775807 →
    Writes w f t (Knows IsOpen r done) start is →
    WroteFrontOf w f t (IsDumpShown r.form ((done ++ piece) ++ left)) start will) →
    IfSome first (λ dump. WroteFrontOf w f t (IsDumpShown form dump) was will)
front_piece {w = w} {f = f} {t = t} r form first now next was is will a b piece h came told fits
    part =
    let fit = room r form first now was is a b piece h fits in
    dump_left first now next h.done piece (λ dump. WroteFrontOf w f t (IsDumpShown form dump) was
    will) h.came came h.told told
    (λ left.
    subst (λ (s : LogForm). WroteFrontOf w f t (IsDumpShown s ((h.done ++ piece) ++ left)) was will)
    h.same (part h.done left was fit h.stands))

-- all was read: what is shown of it was written, or its front
ends_so : {K : Type 0} {w : K → Option (List ℕ)} {f : K → ℕ} {t : K → ℕ → Type 0} (form : LogForm)
    (dump : List ℕ) (old new : K) (result : Result Bool LogStop) →
    IfOk result (λ bad. Writes w f t (λ text. IsDumpShown form dump text bad) old new) →
    OnErr result (WroteFrontOf w f t (IsDumpShown form dump) old new) →
    WroteFrontOf w f t (IsDumpShown form dump) old new
ends_so form dump old new (Ok bad) ok part = front_all form dump bad old new ok
ends_so form dump old new (Err stop) ok part = part

pub front_end : {K : Type 0} {w : K → Option (List ℕ)} {f : K → ℕ} {t : K → ℕ → Type 0}
    (r : DumpReader) (form : LogForm) (first now next : Option (List ℕ)) (was is will : K) (a b : ℕ)
    (fault : Option DumpFault) (result : Result Bool LogStop) →
    ReadsDump w f t r form first now was is a b → Consumes now next [] → IsAtEnd next →
    (IsOpen r.part.items → EndsSo (r.part.items ++ []) fault) →
    IfOk result (λ bad. (done more : List ℕ) (start : K) → length done ≤ 9223372036854775807 →
    Writes w f t (Knows (λ bytes. EndsSo (bytes ++ more) fault) r done) start is →
    Writes w f t (λ text. IsDumpShown r.form (done ++ more) text bad) start will) →
    OnErr result ((done more : List ℕ) (start : K) → length done ≤ 9223372036854775807 →
    Writes w f t (Knows (λ bytes. EndsSo (bytes ++ more) fault) r done) start is →
    WroteFrontOf w f t (IsDumpShown r.form (done ++ more)) start will) →
    IfSome first (λ dump. WroteFrontOf w f t (IsDumpShown form dump) was will)
front_end {w = w} {f = f} {t = t} r form first now next was is will a b fault result h none end fit
    ok part =
    let st = holds_written IsOpen (λ bytes. EndsSo (bytes ++ []) fault) r h.done was is fit
    h.stands in
    all_came first now next h.done (λ dump. WroteFrontOf w f t (IsDumpShown form dump) was will)
    h.came h.told none end
    (subst (λ (s : LogForm). WroteFrontOf w f t (IsDumpShown s h.done) was will) h.same
    (subst (λ (l : List ℕ). WroteFrontOf w f t (IsDumpShown r.form l) was will) (append-nil h.done)
    (ends_so r.form (h.done ++ []) was will result
    (map_ok result _ _ (λ bad then. then h.done [] was h.small st) ok)
    (map_err result _ _ (λ then. then h.done [] was h.small st) part))))

-- a length came that can't be
pub front_cut : {K : Type 0} {w : K → Option (List ℕ)} {f : K → ℕ} {t : K → ℕ → Type 0}
    (r s : DumpReader) (form : LogForm) (first now next : Option (List ℕ)) (was is mid will : K)
    (a b : ℕ) (piece : List ℕ) (size : ℕ) (result : Result Bool LogStop) →
    ReadsDump w f t r form first now was is a b → Consumes now next piece → StayTold now next →
    length piece ≤ 9223372036854775807 - r.taken →
    ((done : List ℕ) (start : K) → length done + length piece ≤ 9223372036854775807 →
    Writes w f t (Knows IsOpen r done) start is →
    Writes w f t (Goes (Some size) s (done ++ piece)) start mid) →
    s.form ≡ r.form →
    IfOk result (λ bad. (done more : List ℕ) (start : K) → length done ≤ 9223372036854775807 →
    Writes w f t (Knows (λ bytes. EndsSo (bytes ++ more) (Some (BadLength size))) s done) start
    mid → Writes w f t (λ text. IsDumpShown s.form (done ++ more) text bad) start will) →
    OnErr result ((done more : List ℕ) (start : K) → length done ≤ 9223372036854775807 →
    Writes w f t (Knows (λ bytes. EndsSo (bytes ++ more) (Some (BadLength size))) s done) start
    mid → WroteFrontOf w f t (IsDumpShown s.form (done ++ more)) start will) →
    IfSome first (λ dump. WroteFrontOf w f t (IsDumpShown form dump) was will)
front_cut {w = w} {f = f} {t = t} r s form first now next was is mid will a b piece size result h
    came told fits taken same ok part =
    let fit = room r form first now was is a b piece h fits in
    let goes = taken h.done was fit h.stands in
    let small : length goes.is.0 ≤ 9223372036854775807 =
    omega (
      arith,
      fit,
      length-append h.done piece,
      ap (λ (l : List ℕ). length l) goes.is.2,
      length-append goes.is.0 goes.is.1,
    ) in
    dump_left first now next h.done piece (λ dump. WroteFrontOf w f t (IsDumpShown form dump) was
    will) h.came came h.told told
    (λ left.
    let st = front_ends s (h.done ++ piece) left size was mid goes in
    subst (λ (k : LogForm). WroteFrontOf w f t (IsDumpShown k ((h.done ++ piece) ++ left)) was will)
    (same ∙ h.same)
    (subst (λ (l : List ℕ). WroteFrontOf w f t (IsDumpShown s.form l) was will)
    (sym (ap (λ (l : List ℕ). l ++ left) goes.is.2 ∙ append_assoc goes.is.0 goes.is.1 left))
    (ends_so s.form (goes.is.0 ++ (goes.is.1 ++ left)) was will result
    (map_ok result _ _ (λ bad then. then goes.is.0 (goes.is.1 ++ left) was small st) ok)
    (map_err result _ _ (λ then. then goes.is.0 (goes.is.1 ++ left) was small st) part))))

-- ---- what is answered is the one text

pub shown : {K : Type 0} (w : K → Option (List ℕ)) (f : K → ℕ) (t : K → ℕ → Type 0) (form : LogForm)
    (first : Option (List ℕ)) (was will : K) (result : Result Bool LogStop) →
    IfOk result (λ bad. IfSome first (λ dump. Writes w f t (λ text. IsDumpShown form dump text bad)
    was will)) →
    IfOk result (λ bad. IfSome first (λ dump. IsDumpWritten form (w was) (w will) dump bad))
shown w f t form None was will (Ok bad) all = tt
shown w f t form (Some dump) was will (Ok bad) all = record {
  text = all.text;
  is_shown = all.is;
  wrote = all.wrote.appended;
}
shown w f t form first was will (Err stop) all = tt

given : (form : LogForm) (dump : List ℕ) (was will : Option (List ℕ))
    (result : Result Bool LogStop) →
    IfOk result (λ bad. IsDumpWritten form was will dump bad) →
    IfOk result (λ bad. (text : List ℕ) × IsDumpShown form dump text bad × Appends was will text)
given form dump was will (Ok bad) w = (w.text, w.is_shown, w.wrote)
given form dump was will (Err stop) w = tt

of_dump : (form : LogForm) (dump : List ℕ) (was will : Option (List ℕ))
    (result : Result Bool LogStop) →
    IfOk result (λ bad. IfSome (Some dump) (λ l. IsDumpWritten form was will l bad)) →
    IfOk result (λ bad. IsDumpWritten form was will dump bad)
of_dump form dump was will (Ok bad) w = w
of_dump form dump was will (Err stop) w = tt

pub exact_shown : (form : LogForm) (first was will : Option (List ℕ))
    (result : Result Bool LogStop) →
    IfOk result (λ bad. IfSome first (λ dump. IsDumpWritten form was will dump bad)) →
    IfSome first (λ dump. IsExact (IsDumpShown form dump) result)
exact_shown form None was will result shown = tt
exact_shown form (Some dump) was will result shown =
    exact_of (IsDumpShown form dump) was will result (one_text form dump)
    (given form dump was will result (of_dump form dump was will result shown))

pub complete_shown : (form : LogForm) (first was will : Option (List ℕ)) (a b c : ℕ)
    (result : Result Bool LogStop) →
    IfOk result (λ bad. IfSome first (λ dump. IsDumpWritten form was will dump bad)) →
    IfErr result (StoppedWriting b c) → a ≤ b → (Rose a c → ⊥) →
    IfSome first (λ dump. length dump ≤ 9223372036854775807 →
    IsComplete (IsDumpShown form dump) result was will)
complete_shown form None was will a b c result shown stops le sound = tt
complete_shown form (Some dump) was will a b c result shown stops le sound = λ small.
    complete_of (IsDumpShown form dump) was will result a b c (one_text form dump)
    (given form dump was will result (of_dump form dump was will result shown)) stops le sound

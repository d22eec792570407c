-- A reader of a dump, record by record.
use Rattle.std.proofs.Common.{◌≡◌, ◌∙◌, ℕ, ◌+◌, ◌-◌, ◌<◌, ◌≤◌, ◌^◌, Bool, true, false, ◌||◌, Option, Some, None, List, [], ◌∷◌, ◌++◌, length, take, drop, refl, sym, ap, subst, append_assoc, append-nil, length-append, length-drop, arith}
use Rattle.std.specs.Prelude.{is_some}
use Rattle.std.proofs.lemmas.List.{take-append-drop}
use Rattle.std.proofs.Math.Seq.{take-add}
use Rattle.reset_list.specs.InOrder.{AreTold}
use Rattle.reset_list.proofs.Lemmas.{wrote_nothing}
use Rattle.nosy_dump.specs.declared.dump.DumpReader.{DumpReader}
use Rattle.nosy_dump.specs.declared.record.Record.{Record}
use Rattle.nosy_dump.specs.declared.record.Record.TheVariants.{Reset, SelfId, Other}
use Rattle.nosy_dump.specs.declared.record.DumpReset.{DumpReset}
use Rattle.nosy_dump.specs.declared.record.DumpFault.{DumpFault}
use Rattle.nosy_dump.specs.declared.record.DumpFault.TheVariants.{BadLength}
use Rattle.nosy_dump.specs.Record.{record_bytes, dump_of, record_of, is_size, IsOpen, EndsSo}
use Rattle.nosy_dump.specs.Resets.{resets_from}
use Rattle.nosy_dump.specs.Noted.{Noted, nothing}
use Rattle.nosy_dump.specs.Notes.{noted}
use Rattle.nosy_dump.specs.Dump.{last_text, IsResetShown, IsDumpShown, IsBegunWritten, but_last}
use Rattle.nosy_dump.specs.codings.Going.{AreResets, IsNew, Knows, Awaits, IsWhole, HasBadLength, ShowsBy, with_packet, Stays, Goes, Writes}
use Rattle.nosy_dump.proofs.Records.{dump_more, sized_more, length-record_bytes, few_records, more_size, resets_other, resets_reset, resets_packet, last_more, last_none, last_with, few_resets, but_last-more}
use Rattle.nosy_dump.proofs.Waiting.{AllShown, few_ended, all_shown}

-- ---- the bytes behind the whole records

-- bytes more, of which this is known now
pub bytes_more : (Holds Now : List ℕ → Type 0) (old new : DumpReader) (done bytes text : List ℕ) →
    Knows Holds old done text → Now new.part.items → new.part.items ≡ old.part.items ++ bytes →
    new.form ≡ old.form → new.pending ≡ old.pending → noted new.notes ≡ noted old.notes →
    new.number ≡ old.number → new.bad ≡ old.bad → new.taken ≡ old.taken + length bytes →
    Knows Now new (done ++ bytes) text
bytes_more Holds Now old new done bytes text st now part es ep et en eb ek = record {
  records = st.records;
  ended = st.ended;
  done_is =
      ap (λ (d : List ℕ). d ++ bytes) st.done_is
      ∙ append_assoc (dump_of st.records) old.part.items bytes
      ∙ ap (λ (o : List ℕ). dump_of st.records ++ o) (sym part);
  sized = st.sized;
  holds = now;
  resets_are = subst (λ (p : Option DumpReset). AreResets st.records st.ended p) (sym ep)
      st.resets_are;
  told = rw (es, et, eb) st.told;
  number_is = en ∙ st.number_is;
  taken_is = omega (arith, ek, st.taken_is, length-append done bytes);
}

-- what bytes hold, and what is known of them
pub holds_now : (Holds Now : List ℕ → Type 0) (r : DumpReader) (done text : List ℕ) →
    (Holds r.part.items → Now r.part.items) → Knows Holds r done text → Knows Now r done text
holds_now Holds Now r done text then st = record {
  records = st.records;
  ended = st.ended;
  done_is = st.done_is;
  sized = st.sized;
  holds = then st.holds;
  resets_are = st.resets_are;
  told = st.told;
  number_is = st.number_is;
  taken_is = st.taken_is;
}

pub holds_written : {K : Type 0} {w : K → Option (List ℕ)} {f : K → ℕ} {t : K → ℕ → Type 0}
    (Holds Now : List ℕ → Type 0) (r : DumpReader) (done : List ℕ) (start was : K) →
    (Holds r.part.items → Now r.part.items) → Writes w f t (Knows Holds r done) start was →
    Writes w f t (Knows Now r done) start was
holds_written Holds Now r done start was then all = record {
  text = all.text;
  is = holds_now Holds Now r done all.text then all.is;
  wrote = all.wrote;
}

pub at_start : {K : Type 0} {w : K → Option (List ℕ)} {f : K → ℕ} {t : K → ℕ → Type 0}
    (r : DumpReader) (a : K) →
    IsNew r → Writes w f t (Knows IsOpen r []) a a
at_start r a new = record {
  text = [];
  is = record {
    records = [];
    ended = [];
    done_is = sym new.part_is;
    sized = tt;
    holds = subst IsOpen (sym new.part_is) tt;
    resets_are = subst (λ (p : Option DumpReset). AreResets [] [] p) (sym new.pending_is)
        (refl, refl);
    told = (refl, new.bad_is, new.noted_is);
    number_is = new.number_is;
    taken_is = new.taken_is;
  };
  wrote = wrote_nothing a;
}

-- ---- a whole record

-- fewer than 2 ^ 64 - 1 resets
few_numbers : (records : List (List ℕ)) (ended : List DumpReset) (pending : Option DumpReset)
    (done behind : List ℕ) (n : ℕ) →
    AreResets records ended pending → done ≡ dump_of records ++ behind → n ≡ length ended + 1 →
    length done ≤ 9223372036854775807 → n < 2 ^ 64 - 1
few_numbers records ended pending done behind n are is number few =
    let a = few_ended records ended pending are in
    let b = few_resets 0 records in
    let c = few_records records in
    let d : length done ≡ length (dump_of records) + length behind =
    ap (λ (l : List ℕ). length l) is ∙ length-append (dump_of records) behind in
    omega (arith, a, b, c, d, few, number)

pub place_of : (Holds : List ℕ → Type 0) (old : DumpReader) (done text : List ℕ) (byte : ℕ) →
    (st : Knows Holds old done text) → byte ≡ old.taken - length old.part.items →
    byte ≡ length (dump_of st.records)
place_of Holds old done text byte st e =
    let d : length done ≡ length (dump_of st.records) + length old.part.items =
    ap (λ (l : List ℕ). length l) st.done_is ∙ length-append (dump_of st.records)
    old.part.items in
    omega (arith, d, e, st.taken_is)

-- the one that is kept
pub of_part : (old new : DumpReader) (byte : ℕ) (k : Record) (done text : List ℕ) →
    Knows IsWhole old done text → byte ≡ old.taken - length old.part.items →
    record_of (drop 4 old.part.items) ≡ k → new.part.items ≡ [] →
    new.form ≡ old.form → new.pending ≡ old.pending → noted new.notes ≡ noted old.notes →
    new.number ≡ old.number → new.bad ≡ old.bad → new.taken ≡ old.taken →
    Awaits new byte k done text
of_part old new byte k done text st at tells part es ep et en eb ek = record {
  records = st.records;
  bytes = drop 4 old.part.items;
  ended = st.ended;
  done_is = st.done_is ∙ ap (λ (o : List ℕ). dump_of st.records ++ o) st.holds.bytes_are;
  sized = st.sized;
  fits = st.holds.sized;
  tells = tells;
  place_is = place_of IsWhole old done text byte st at;
  part_is = part;
  resets_are = subst (λ (p : Option DumpReset). AreResets st.records st.ended p) (sym ep)
      st.resets_are;
  told = rw (es, et, eb) st.told;
  number_is = en ∙ st.number_is;
  taken_is = ek ∙ st.taken_is;
}

-- one where no other one has begun
pub in_place : (old new : DumpReader) (byte : ℕ) (k : Record) (done bytes text : List ℕ) →
    Knows IsOpen old done text → byte ≡ old.taken → record_of bytes ≡ k →
    is_size (length bytes) ≡ true → old.part.items ≡ [] → new.part.items ≡ old.part.items →
    new.form ≡ old.form → new.pending ≡ old.pending → noted new.notes ≡ noted old.notes →
    new.number ≡ old.number → new.bad ≡ old.bad → new.taken ≡ old.taken + (4 + length bytes) →
    Awaits new byte k (done ++ record_bytes bytes) text
in_place old new byte k done bytes text st at tells fits none part es ep et en eb ek =
    let all : done ≡ dump_of st.records = st.done_is ∙ ap (λ (o : List ℕ). dump_of st.records ++ o)
    none ∙ append-nil (dump_of st.records) in
    record {
      records = st.records;
      bytes = bytes;
      ended = st.ended;
      done_is = ap (λ (d : List ℕ). d ++ record_bytes bytes) all;
      sized = st.sized;
      fits = fits;
      tells = tells;
      place_is = at ∙ st.taken_is ∙ ap (λ (l : List ℕ). length l) all;
      part_is = part ∙ none;
      resets_are = subst (λ (p : Option DumpReset). AreResets st.records st.ended p) (sym ep)
          st.resets_are;
      told = rw (es, et, eb) st.told;
      number_is = en ∙ st.number_is;
      taken_is = omega (
        arith,
        ek,
        st.taken_is,
        length-append done (record_bytes bytes),
        length-record_bytes bytes,
      );
    }

whole_done : (records : List (List ℕ)) (bytes done : List ℕ) → done ≡ dump_of records
    ++ record_bytes bytes →
    done ≡ dump_of (records ++ bytes ∷ []) ++ []
whole_done records bytes done e =
    e ∙ sym (dump_more records bytes) ∙ sym (append-nil (dump_of (records ++ bytes ∷ [])))

pub after_other : (r : DumpReader) (byte : ℕ) (k : Record) (done text : List ℕ) → k ≡ Other →
    Awaits r byte k done text → Knows IsOpen r done text
after_other r byte k done text is a = record {
  records = a.records ++ a.bytes ∷ [];
  ended = a.ended;
  done_is = rw a.part_is (whole_done a.records a.bytes done a.done_is);
  sized = sized_more a.records a.bytes a.sized a.fits;
  holds = subst IsOpen (sym a.part_is) tt;
  resets_are = same r.pending a.resets_are;
  told = a.told;
  number_is = a.number_is;
  taken_is = a.taken_is;
}
  where
    same : (p : Option DumpReset) → AreResets a.records a.ended p →
        AreResets (a.records ++ a.bytes ∷ []) a.ended p
    same None are = (resets_other 0 a.records a.bytes (a.tells ∙ is) ∙ are.0, are.1)
    same (Some p) are = resets_other 0 a.records a.bytes (a.tells ∙ is) ∙ are

pub after_packet : (old new : DumpReader) (byte : ℕ) (k : Record) (done text : List ℕ) (quad : ℕ) →
    k ≡ SelfId quad → Awaits old byte k done text → new.pending ≡ with_packet quad old.pending →
    new.part.items ≡ old.part.items → new.form ≡ old.form → noted new.notes ≡ noted old.notes →
    new.number ≡ old.number → new.bad ≡ old.bad → new.taken ≡ old.taken →
    Knows IsOpen new done text
after_packet old new byte k done text quad is a ep part es et en eb ek =
    let none : new.part.items ≡ [] = part ∙ a.part_is in
    record {
      records = a.records ++ a.bytes ∷ [];
      ended = a.ended;
      done_is = rw none (whole_done a.records a.bytes done a.done_is);
      sized = sized_more a.records a.bytes a.sized a.fits;
      holds = subst IsOpen (sym none) tt;
      resets_are = rw ep (with old.pending a.resets_are);
      told = rw (es, et, eb) a.told;
      number_is = en ∙ a.number_is;
      taken_is = ek ∙ a.taken_is;
    }
  where
    more : resets_from 0 (a.records ++ a.bytes ∷ []) ≡ last_with quad (resets_from 0 a.records)
    more = resets_packet 0 a.records a.bytes quad (a.tells ∙ is)

    with : (p : Option DumpReset) → AreResets a.records a.ended p →
        AreResets (a.records ++ a.bytes ∷ []) a.ended (with_packet quad p)
    with None are = (more ∙ last_none (resets_from 0 a.records) quad are.0, are.1)
    with (Some p) are = more ∙ ap (λ (l : List DumpReset). last_with quad l) are
        ∙ last_more a.ended p quad

pub after_reset : (old new : DumpReader) (byte time : ℕ) (k : Record) (done text was is : List ℕ) →
    k ≡ Reset time → Awaits old byte k done (text ++ was) → length done ≤ 9223372036854775807 →
    ShowsBy old.form old.pending old.number (noted old.notes) old.bad new.number (noted new.notes)
    new.bad was is →
    new.pending ≡ Some (record { byte = byte; time = time; list = [] }) →
    new.part.items ≡ old.part.items → new.form ≡ old.form → new.taken ≡ old.taken →
    Knows IsOpen new done (text ++ is)
after_reset old new byte time k done text was is kind a few shows ep part es ek =
    let number = few_numbers a.records a.ended old.pending done (record_bytes a.bytes) old.number
    a.resets_are a.done_is a.number_is few in
    let all =
    all_shown old.form a.records a.ended old.pending text was is old.number new.number
    (noted old.notes) (noted new.notes) old.bad new.bad a.resets_are a.told a.number_is number
    shows
    in
    let place : byte ≡ 0 + length (dump_of a.records) = omega (arith, a.place_is) in
    let none : new.part.items ≡ [] = part ∙ a.part_is in
    record {
      records = a.records ++ a.bytes ∷ [];
      ended = resets_from 0 a.records;
      done_is = rw none (whole_done a.records a.bytes done a.done_is);
      sized = sized_more a.records a.bytes a.sized a.fits;
      holds = subst IsOpen (sym none) tt;
      resets_are = rw ep (resets_reset 0 a.records a.bytes time byte (a.tells ∙ kind) place);
      told = rw es all.told;
      number_is = all.number_is;
      taken_is = ek ∙ a.taken_is;
    }

-- ---- bytes in a row

pub came_on : (done bytes rest : List ℕ) (at count : ℕ) → rest ≡ drop at bytes →
    (done ++ take at bytes) ++ take count rest ≡ done ++ take (at + count) bytes
came_on done bytes rest at count is =
    append_assoc done (take at bytes) (take count rest)
    ∙ ap (λ (l : List ℕ). done ++ (take at bytes ++ take count l)) is
    ∙ ap (λ (l : List ℕ). done ++ l) (sym (take-add at count bytes))

pub came_all : (done bytes : List ℕ) (at : ℕ) → done ++ bytes ≡ (done ++ take at bytes)
    ++ drop at bytes
came_all done bytes at =
    ap (λ (l : List ℕ). done ++ l) (sym (take-append-drop at bytes))
    ∙ sym (append_assoc done (take at bytes) (drop at bytes))

-- room for the bytes that are left
pub few_left : (done bytes rest : List ℕ) (at : ℕ) → rest ≡ drop at bytes → at < length bytes →
    length done + length bytes ≤ 9223372036854775807 →
    length (done ++ take at bytes) + length rest ≤ 9223372036854775807
few_left done bytes rest at is less few =
    let size : length (take at bytes) + length (drop at bytes) ≡ length bytes =
    sym (length-append (take at bytes) (drop at bytes)) ∙ ap (λ (l : List ℕ). length l)
    (take-append-drop at bytes) in
    let same : length rest ≡ length (drop at bytes) = ap (λ (l : List ℕ). length l) is in
    omega (arith, few, size, same, length-append done (take at bytes))

pub some_left : (bytes rest : List ℕ) (at : ℕ) → rest ≡ drop at bytes → at < length bytes →
    0 < length rest
some_left bytes rest at is less =
    let same : length rest ≡ length (drop at bytes) = ap (λ (l : List ℕ). length l) is in
    omega (arith, less, same, length-drop at bytes)

pub stays_open : (size : Option ℕ) (r : DumpReader) (done text : List ℕ) → is_some size ≡ false →
    Stays size r done text → Knows IsOpen r done text
stays_open None r done text e st = st
stays_open (Some size) r done text e st = absurd cc

-- a length came within bytes that can't be
pub stopped : (size : Option ℕ) (r : DumpReader) (done all more text : List ℕ) →
    is_some size ≡ true →
    all ≡ done ++ more → Stays size r done text → Goes size r all text
stopped None r done all more text e is st = absurd cc
stopped (Some size) r done all more text e is st = (done, more, is, st)

-- ---- the end

pub shown_now : (Holds : List ℕ → Type 0) (old : DumpReader) (done text was is : List ℕ) (m : ℕ)
    (u : Noted) (c : Bool) →
    (st : Knows Holds old done (text ++ was)) → length done ≤ 9223372036854775807 →
    ShowsBy old.form old.pending old.number (noted old.notes) old.bad m u c was is →
    AllShown old.form st.records (text ++ is) m u c
shown_now Holds old done text was is m u c st few shows =
    let number = few_numbers st.records st.ended old.pending done old.part.items old.number
    st.resets_are st.done_is st.number_is few in
    all_shown old.form st.records st.ended old.pending text was is old.number m (noted old.notes) u
    old.bad c
    st.resets_are st.told st.number_is number shows

pub all_told : (old : DumpReader) (done more text was mid is : List ℕ) (fault : Option DumpFault)
    (byte m : ℕ) (u : Noted) (c : Bool) →
    Knows (λ bytes. EndsSo (bytes ++ more) fault) old done (text ++ was) →
    length done ≤ 9223372036854775807 → byte ≡ old.taken - length old.part.items →
    ShowsBy old.form old.pending old.number (noted old.notes) old.bad m u c was mid →
    is ≡ mid ++ last_text old.form byte fault u →
    IsDumpShown old.form (done ++ more) (text ++ is) (c || is_some fault)
all_told old done more text was mid is fault byte m u c st few at shows last =
    let all = shown_now (λ bytes. EndsSo (bytes ++ more) fault) old done text was mid m u c st few
    shows in
    let place : byte ≡ length (dump_of st.records) =
    place_of (λ bytes. EndsSo (bytes ++ more) fault) old done (text ++ was) byte st at in
    record {
      records = st.records;
      rest = old.part.items ++ more;
      fault = fault;
      dump_is = ap (λ (d : List ℕ). d ++ more) st.done_is ∙ append_assoc (dump_of st.records)
          old.part.items more;
      sized = st.sized;
      ends = st.holds;
      resets_text = text ++ mid;
      is_refused = c;
      known = u;
      told = all.told;
      text_is =
          ap (λ (l : List ℕ). text ++ l) last
          ∙ sym (append_assoc text mid (last_text old.form byte fault u))
          ∙ ap (λ (b : ℕ). (text ++ mid) ++ last_text old.form b fault u) place;
      bad_is = refl;
    }

-- a length that can't be stays where it is
pub bad_length : (part more : List ℕ) (size : ℕ) → HasBadLength size part →
    EndsSo (part ++ more) (Some (BadLength size))
bad_length part more size h = (more_size part more size h.0, h.1)

-- so it ends what came so far, whatever comes behind it
pub front_ends : {K : Type 0} {w : K → Option (List ℕ)} {f : K → ℕ} {t : K → ℕ → Type 0}
    (s : DumpReader) (done left : List ℕ) (size : ℕ) (start is : K) →
    (goes : Writes w f t (Goes (Some size) s done) start is) →
    Writes w f t (Knows (λ bytes. EndsSo (bytes ++ (goes.is.1 ++ left)) (Some (BadLength size))) s
    goes.is.0) start is
front_ends s done left size start is goes = record {
  text = goes.text;
  is =
      holds_now (HasBadLength size) (λ bytes. EndsSo (bytes ++ (goes.is.1 ++ left))
      (Some (BadLength size))) s goes.is.0 goes.text
      (bad_length s.part.items (goes.is.1 ++ left) size) goes.is.3;
  wrote = goes.wrote;
}

-- what is written while a dump goes on
pub begun : {K : Type 0} {w : K → Option (List ℕ)} {f : K → ℕ} {t : K → ℕ → Type 0} (r : DumpReader)
    (done : List ℕ) (start was : K) →
    Writes w f t (Knows IsOpen r done) start was → IsBegunWritten r.form (w start) (w was) done
begun r done start was all = record {
  text = all.text;
  is_shown = record {
    records = all.is.records;
    rest = r.part.items;
    dump_is = all.is.done_is;
    sized = all.is.sized;
    is_open = all.is.holds;
    bad = r.bad;
    known = noted r.notes;
    told =
        subst (λ (l : List DumpReset). AreTold (IsResetShown r.form) 1 nothing l all.text r.bad
        (noted r.notes)) (sym (all_but r.pending all.is.resets_are)) all.is.told;
  };
  wrote = all.wrote.appended;
}
  where
    none : (rs ended : List DumpReset) → rs ≡ [] → ended ≡ [] → but_last rs ≡ ended
    none [] [] e f = refl
    none [] (y ∷ ys) e f = absurd cc
    none (x ∷ xs) ended e f = absurd cc

    all_but : (p : Option DumpReset) → AreResets all.is.records all.is.ended p →
        but_last (resets_from 0 all.is.records) ≡ all.is.ended
    all_but None are = none (resets_from 0 all.is.records) all.is.ended are.0 are.1
    all_but (Some p) are = ap but_last are ∙ but_last-more all.is.ended p

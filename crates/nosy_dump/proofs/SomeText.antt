-- Each dump has a text.
use Rattle.std.proofs.Common.{◌≡◌, ◌∙◌, ℕ, zero, suc, ◌+◌, ◌<◌, ◌≤◌, ◌^◌, ◌||◌, Bool, true, false, is_none, Option, Some, None, List, [], ◌∷◌, ◌++◌, length, take, drop, refl, sym, ap, subst, append_assoc, length-drop, length-take-le, arith}
use Rattle.std.specs.Prelude.{if◌then◌else◌, is_some, nat_lt, get_or}
use Rattle.std.specs.Int.{w32, from_le_bytes, to_le_bytes}
use Rattle.std.specs.List.{All, AllByRecursion}
use Rattle.std.proofs.lemmas.Bool.Decides.{nat_tests}
use Rattle.std.proofs.lemmas.List.{take-append-drop}
use Rattle.std.proofs.lemmas.List.Elements.{All-nil, All-cons, All-take, All-drop, recursion_from_All}
use Rattle.std.proofs.lemmas.Nat.{le_bytes_4}
use Rattle.topology_stack.specs.Tree.{Tree}
use Rattle.bus_json.specs.Text.{json_line}
use Rattle.reset_list.specs.declared.form.LogForm.{LogForm}
use Rattle.reset_list.specs.declared.form.LogForm.TheVariants.{Text, Short, Json}
use Rattle.log_line.specs.declared.line.Origin.TheVariants.{Core}
use Rattle.reset_list.proofs.Lemmas.{Fit, some_list, some_short, some_told, told_some}
use Rattle.nosy_dump.specs.declared.record.Record.{Record}
use Rattle.nosy_dump.specs.declared.record.Record.TheVariants.{Reset, SelfId, Other}
use Rattle.nosy_dump.specs.declared.record.DumpReset.{DumpReset}
use Rattle.nosy_dump.specs.declared.record.DumpFault.{DumpFault}
use Rattle.nosy_dump.specs.declared.record.DumpFault.TheVariants.{Cut, BadLength}
use Rattle.nosy_dump.specs.Record.{quad_at, record_bytes, dump_of, is_size, record_of, AreSized, EndsSo}
use Rattle.nosy_dump.specs.Resets.{packets_by, packets, resets_by, resets_from}
use Rattle.nosy_dump.specs.Texts.{head}
use Rattle.nosy_dump.specs.Json.{reset_value}
use Rattle.nosy_dump.specs.Noted.{Noted, nothing, after}
use Rattle.nosy_dump.specs.Dump.{IsJudged, last_text, IsResetShown}
use Rattle.nosy_dump.specs.OneText.{EachDumpHasAText}

abbrev pub AreBytes : List ℕ → Type 0
AreBytes bytes = All (λ b. b < 256) bytes

small : (bytes : List ℕ) (i : ℕ) → AllByRecursion (λ b. b < 256) bytes → get_or bytes i 0 < 256
small [] i fit = omega arith
small (b ∷ bytes) zero fit = fit.0
small (b ∷ bytes) (suc i) fit = small bytes i fit.1

small_at : (bytes : List ℕ) (i : ℕ) → AreBytes bytes → get_or bytes i 0 < 256
small_at bytes i fit = small bytes i (recursion_from_All _ _ fit)

-- ---- a dump is parted into its records

abbrev pub EachOfBytes : List (List ℕ) → Type 0
EachOfBytes [] = Unit {0}
EachOfBytes (r ∷ rs) = AreBytes r × EachOfBytes rs

record Parting (dump : List ℕ) : Type 0 where
  records : List (List ℕ)
  rest : List ℕ
  fault : Option DumpFault
  dump_is : dump ≡ dump_of records ++ rest
  sized : AreSized records
  ends : EndsSo rest fault
  of_bytes : EachOfBytes records

ends_here : (dump : List ℕ) (fault : Option DumpFault) → EndsSo dump fault → Parting dump
ends_here dump fault ends = record {
  records = [];
  rest = dump;
  fault = fault;
  dump_is = refl;
  sized = tt;
  ends = ends;
  of_bytes = tt;
}

-- a record stands in front
one_record : (a b c d : ℕ) (more : List ℕ) → AreBytes (a ∷ b ∷ c ∷ d ∷ []) → AreBytes more →
    is_size (from_le_bytes w32 (a ∷ b ∷ c ∷ d ∷ [])) ≡ true →
    from_le_bytes w32 (a ∷ b ∷ c ∷ d ∷ []) ≤ length more →
    Parting (drop (from_le_bytes w32 (a ∷ b ∷ c ∷ d ∷ [])) more) →
    Parting (a ∷ b ∷ c ∷ d ∷ more)
one_record a b c d more front fit sized whole next = record {
  records = r ∷ next.records;
  rest = next.rest;
  fault = next.fault;
  dump_is =
      ap (λ (l : List ℕ). (a ∷ b ∷ c ∷ d ∷ []) ++ l) (sym (take-append-drop size more) ∙ ap (λ (l : List ℕ). r ++ l) next.dump_is)
      ∙ ap (λ (l : List ℕ). l ++ (r ++ (dump_of next.records ++ next.rest))) (sym head_is)
      ∙ sym (append_assoc (to_le_bytes w32 (length r)) r (dump_of next.records ++ next.rest))
      ∙ sym (append_assoc (record_bytes r) (dump_of next.records) next.rest);
  sized = (ap is_size long ∙ sized, next.sized);
  ends = next.ends;
  of_bytes = (All-take (λ b. b < 256) size more fit, next.of_bytes);
}
  where
    size : ℕ
    size = from_le_bytes w32 (a ∷ b ∷ c ∷ d ∷ [])

    r : List ℕ
    r = take size more

    long : length r ≡ size
    long = length-take-le size more whole

    head_is : to_le_bytes w32 (length r) ≡ a ∷ b ∷ c ∷ d ∷ []
    head_is = ap (to_le_bytes w32) long ∙ le_bytes_4 (a ∷ b ∷ c ∷ d ∷ []) size refl (λ i. small_at (a ∷ b ∷ c ∷ d ∷ []) i front) refl

parting : (n : ℕ) (dump : List ℕ) → length dump ≤ n → AreBytes dump → Parting dump
parting n [] few fit = ends_here [] None refl
parting n (a ∷ []) few fit = ends_here (a ∷ []) (Some Cut) ((λ e. absurd cc), tt)
parting n (a ∷ b ∷ []) few fit = ends_here (a ∷ b ∷ []) (Some Cut) ((λ e. absurd cc), tt)
parting n (a ∷ b ∷ c ∷ []) few fit = ends_here (a ∷ b ∷ c ∷ []) (Some Cut) ((λ e. absurd cc), tt)
parting zero (a ∷ b ∷ c ∷ d ∷ more) few fit = absurd (omega (arith, few))
parting (suc n) (a ∷ b ∷ c ∷ d ∷ more) few fit =
    go (is_size size) (nat_lt (length more) size) refl refl
    (parting n (drop size more) (omega (arith, few, length-drop size more)) (All-drop (λ b. b < 256) size more behind))
  where
    size : ℕ
    size = from_le_bytes w32 (a ∷ b ∷ c ∷ d ∷ [])

    behind : AreBytes more
    behind = All-drop (λ b. b < 256) 4 (a ∷ b ∷ c ∷ d ∷ more) fit

    go : (fits short : Bool) → is_size size ≡ fits → nat_lt (length more) size ≡ short →
        Parting (drop size more) → Parting (a ∷ b ∷ c ∷ d ∷ more)
    go false short e f next = ends_here (a ∷ b ∷ c ∷ d ∷ more) (Some (BadLength size)) (refl, e)
    go true true e f next =
        let few : length more < size = grind (arith, nat_tests, f) in
        ends_here (a ∷ b ∷ c ∷ d ∷ more) (Some Cut) ((λ g. absurd cc), (e, omega (arith, few)))
    go true false e f next =
        let whole : size ≤ length more = grind (arith, nat_tests, f) in
        one_record a b c d more (All-take (λ b. b < 256) 4 (a ∷ b ∷ c ∷ d ∷ more) fit) behind e whole next

-- ---- the packets of a dump are quadlets

quad_fits : (bytes : List ℕ) (at : ℕ) → AreBytes bytes → quad_at bytes at < 2 ^ 32
quad_fits bytes at fit =
    sum (get_or bytes at 0) (get_or bytes (at + 1) 0) (get_or bytes (at + 2) 0) (get_or bytes (at + 3) 0)
    (small_at bytes at fit) (small_at bytes (at + 1) fit) (small_at bytes (at + 2) fit) (small_at bytes (at + 3) fit)
  where
    sum : (a b c d : ℕ) → a < 256 → b < 256 → c < 256 → d < 256 →
        from_le_bytes w32 (a ∷ b ∷ c ∷ d ∷ []) < 2 ^ 32
    sum a b c d e f g h = omega (arith, e, f, g, h)

packet_fits : (r : List ℕ) (quad : ℕ) → AreBytes r → record_of r ≡ SelfId quad → quad < 2 ^ 32
unfolding record_of
packet_fits r quad fit e = subst (λ (q : ℕ). q < 2 ^ 32) (picked _ _ _ _ quad e) (quad_fits r 4 fit)
  where
    picked : (x y : Bool) (time q p : ℕ) → (if x then Reset time else (if y then SelfId q else Other)) ≡ SelfId p → q ≡ p
    picked true y time q p h = absurd cc
    picked false true time q p h = cc
    picked false false time q p h = absurd cc

packets_fit : (records : List (List ℕ)) → EachOfBytes records → Fit (packets records)
packets_fit [] fit = tt
packets_fit (r ∷ rs) fit = go (record_of r) refl (packets_fit rs fit.1)
  where
    go : (k : Record) → record_of r ≡ k → Fit (packets rs) → Fit (packets_by k (packets rs))
    go (Reset time) e more = tt
    go (SelfId quad) e more = (packet_fits r quad fit.0 e, more)
    go Other e more = more

abbrev pub ListFits : DumpReset → Type 0
ListFits r = Fit r.list

pub resets_fit : (byte : ℕ) (records : List (List ℕ)) → EachOfBytes records →
    All ListFits (resets_from byte records)
resets_fit byte [] fit = All-nil ListFits
resets_fit byte (r ∷ rs) fit = go (record_of r) (resets_fit (byte + (4 + length r)) rs fit.1)
  where
    go : (k : Record) → All ListFits (resets_from (byte + (4 + length r)) rs) →
        All ListFits (resets_by k byte (packets rs) (resets_from (byte + (4 + length r)) rs))
    go (Reset time) more = All-cons ListFits _ _ (packets_fit rs fit.1) more
    go (SelfId quad) more = more
    go Other more = more

-- ---- a reset, and a dump

some_judged : (form : LogForm) (n : ℕ) (before : Option Tree) (r : DumpReset) → Fit r.list →
    (text : List ℕ) × (heard : Option Tree) × IsJudged form n before r text heard
some_judged (Text standard) n before r fit = some_list standard Core (head n r) r.list before fit
some_judged (Short standard) n before r fit = some_short standard Core (head n r) r.list
some_judged (Json standard) n before r fit =
    let l = some_told standard Core r.list in
    (json_line (reset_value n r l.0), l.1, record { members = l.0; told = l.2; text_is = refl })

some_reset : (form : LogForm) (n : ℕ) (before : Noted) (r : DumpReset) → Fit r.list →
    (text : List ℕ) × (bad : Bool) × (next : Noted) × IsResetShown form n before r text bad next
some_reset form n before r fit =
    let l = some_judged form n before.tree r fit in
    (l.0, is_none l.1, after before l.1, record { heard = l.1; shown = l.2; bad_is = refl; next_is = refl })

pub some_text : EachDumpHasAText
some_text form dump fit =
    let p = parting (length dump) dump (omega arith) fit in
    let told = told_some (IsResetShown form) ListFits (λ n before r list. some_reset form n before r list) 1 nothing (resets_from 0 p.records) (resets_fit 0 p.records p.of_bytes) in (
      told.0 ++ last_text form (length (dump_of p.records)) p.fault told.2,
      told.1 || is_some p.fault,
      record {
        records = p.records;
        rest = p.rest;
        fault = p.fault;
        dump_is = p.dump_is;
        sized = p.sized;
        ends = p.ends;
        resets_text = told.0;
        is_refused = told.1;
        known = told.2;
        told = told.3;
        text_is = refl;
        bad_is = refl;
      },
    )

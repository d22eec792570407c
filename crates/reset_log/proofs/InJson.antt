-- What is shown in the form for programs is lines of JSON.
use Rattle.std.proofs.Common.{◌≡◌, ℕ, Option, Result, Ok, Err, List, [], ◌++◌, sym, subst}
use Rattle.std.specs.Prelude.{IfOk, OnOk}
use Rattle.std.specs.Io.KnownBytes.{Appends}
use Rattle.self_id.specs.declared.standard.Standard.{Standard}
use Rattle.bus_json.specs.Lines.{IsJsonLine, AreJsonLines, none, GathersJsonLines, WritesJsonLines}
use Rattle.bus_json.proofs.Lemmas.{one_line, all_lines, gathers_none, gathers_both, writes_none, writes_both, writes_gathered}
use Rattle.reset_list.specs.declared.form.LogForm.{LogForm}
use Rattle.reset_list.specs.declared.form.LogForm.TheVariants.{Text, Short, Json}
use Rattle.reset_log.specs.codings.InJson.{IfJson}

pub in_json : (form : LogForm) (standard : Standard) (P : Type 0) → form ≡ Json standard → IfJson form P → P
in_json form standard P e h = subst (λ (f : LogForm). IfJson f P) e h

-- nothing is no line
pub no_lines : (form : LogForm) (text : List ℕ) → text ≡ [] → IfJson form (AreJsonLines text)
no_lines (Text standard) text e = tt
no_lines (Short standard) text e = tt
no_lines (Json standard) text e = subst AreJsonLines (sym e) none

-- lines behind lines are lines
pub both_lines : (form : LogForm) (a b : List ℕ) → IfJson form (AreJsonLines a) → IfJson form (AreJsonLines b) →
    IfJson form (AreJsonLines (a ++ b))
both_lines (Text standard) a b one two = tt
both_lines (Short standard) a b one two = tt
both_lines (Json standard) a b one two = all_lines a b one two

-- a line is lines, whatever the form
pub in_lines : (form : LogForm) (line : List ℕ) → IsJsonLine line → IfJson form (AreJsonLines line)
in_lines (Text standard) line is = tt
in_lines (Short standard) line is = tt
in_lines (Json standard) line is = one_line line is

pub as_lines : {X E : Type 0} (text : X → List ℕ) (r : Result X E) →
    IfOk r (λ x. IsJsonLine (text x)) → IfOk r (λ x. AreJsonLines (text x))
as_lines text (Ok x) is = one_line (text x) is
as_lines text (Err e) is = tt

pub in_lines_if : {X E : Type 0} (text : X → List ℕ) (form : LogForm) (r : Result X E) →
    IfOk r (λ x. IsJsonLine (text x)) → IfOk r (λ x. IfJson form (AreJsonLines (text x)))
in_lines_if text form (Ok x) is = in_lines form (text x) is
in_lines_if text form (Err e) is = tt

-- ---- gathered

pub gathered_none : (form : LogForm) (was is : List ℕ) → is ≡ was → IfJson form (GathersJsonLines was is)
gathered_none (Text standard) was is e = tt
gathered_none (Short standard) was is e = tt
gathered_none (Json standard) was is e = subst (GathersJsonLines was) (sym e) (gathers_none was)

-- behind what was gathered in the same form
pub gathered_next : (form now : LogForm) (a b c : List ℕ) → now ≡ form →
    IfJson form (GathersJsonLines a b) → IfJson now (GathersJsonLines b c) → IfJson form (GathersJsonLines a c)
gathered_next (Text standard) now a b c same one two = tt
gathered_next (Short standard) now a b c same one two = tt
gathered_next (Json standard) now a b c same one two =
    gathers_both a b c one (in_json now standard (GathersJsonLines b c) same two)

-- ---- written

pub written_none : (form : LogForm) (was : Option (List ℕ)) → IfJson form (WritesJsonLines was was)
written_none (Text standard) was = tt
written_none (Short standard) was = tt
written_none (Json standard) was = writes_none was

pub written_on : (form : LogForm) (a b : Option (List ℕ)) (text : List ℕ) →
    IfJson form (AreJsonLines text) → Appends a b text → IfJson form (WritesJsonLines a b)
written_on (Text standard) a b text lines wrote = tt
written_on (Short standard) a b text lines wrote = tt
written_on (Json standard) a b text lines wrote = record { text = text; lines = lines; wrote = wrote }

pub written_gathered : (form : LogForm) (a b : Option (List ℕ)) (was text : List ℕ) → was ≡ [] →
    IfJson form (GathersJsonLines was text) → Appends a b text → IfJson form (WritesJsonLines a b)
written_gathered (Text standard) a b was text e got wrote = tt
written_gathered (Short standard) a b was text e got wrote = tt
written_gathered (Json standard) a b was text e got wrote =
    writes_gathered a b text (subst (λ (w : List ℕ). GathersJsonLines w text) e got) wrote

-- behind what was written in the same form
pub written_next : (form now : LogForm) (a b c : Option (List ℕ)) → now ≡ form →
    IfJson form (WritesJsonLines a b) → IfJson now (WritesJsonLines b c) → IfJson form (WritesJsonLines a c)
written_next (Text standard) now a b c same one two = tt
written_next (Short standard) now a b c same one two = tt
written_next (Json standard) now a b c same one two =
    writes_both a b c one (in_json now standard (WritesJsonLines b c) same two)

-- and that is all
pub all_written : {A E : Type 0} (r : Result A E) (form now : LogForm) (standard : Standard) (a b c : Option (List ℕ)) →
    now ≡ form → form ≡ Json standard → IfJson form (WritesJsonLines a b) →
    OnOk r (IfJson now (WritesJsonLines b c)) → OnOk r (WritesJsonLines a c)
all_written (Ok x) form now standard a b c same e one two =
    in_json form standard (WritesJsonLines a c) e (written_next form now a b c same one two)
all_written (Err e) form now standard a b c same is one two = tt

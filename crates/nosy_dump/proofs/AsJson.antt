-- In the form of lines of JSON, what is shown is such lines.
use Rattle.std.proofs.Common.{◌≡◌, ◌∙◌, Option, List, [], ℕ, ◌++◌, Result, Ok, Err, ap, subst}
use Rattle.std.specs.Prelude.{OnOk}
use Rattle.std.specs.Io.KnownBytes.{Appends}
use Rattle.self_id.specs.declared.standard.Standard.{Standard}
use Rattle.bus_json.specs.Lines.{GathersJsonLines, WritesJsonLines}
use Rattle.bus_json.proofs.Lemmas.{gathers_none, gathers, gathers_both, writes_none, writes_both, writes_gathered}
use Rattle.reset_list.specs.declared.form.LogForm.{LogForm}
use Rattle.reset_list.specs.declared.form.LogForm.TheVariants.{Text, Short, Json}
use Rattle.nosy_dump.specs.codings.Going.{AreAsJson, GathersAsJson, WritesAsJson}

-- another form has none
pub not_json : (form : LogForm) (standard : Standard) (text : List ℕ) → form ≡ Text standard →
    AreAsJson form text
not_json form standard text e = λ other is. absurd cc

pub short_no_json : (form : LogForm) (standard : Standard) (text : List ℕ) → form ≡ Short standard →
    AreAsJson form text
short_no_json form standard text e = λ other is. absurd cc

-- ---- gathered

pub gather_none : (form : LogForm) (was : List ℕ) → GathersAsJson form was was
gather_none form was = λ standard is. gathers_none was

pub gather_text : (form : LogForm) (was is bytes text : List ℕ) → bytes ≡ text →
    is ≡ was ++ bytes → AreAsJson form text → GathersAsJson form was is
gather_text form was is bytes text same e lines = λ standard json.
    gathers was is text (lines standard json) (e ∙ ap (λ (l : List ℕ). was ++ l) same)

pub gather_both : (form later : LogForm) (a b c : List ℕ) → later ≡ form →
    GathersAsJson form a b → GathersAsJson later b c → GathersAsJson form a c
gather_both form later a b c e one two = λ standard is.
    gathers_both a b c (one standard is) (two standard (e ∙ is))

-- ---- written

pub write_none : (form : LogForm) (was : Option (List ℕ)) → WritesAsJson form was was
write_none form was = λ standard is. writes_none was

pub write_both : (form later : LogForm) (a b c : Option (List ℕ)) → later ≡ form →
    WritesAsJson form a b → WritesAsJson later b c → WritesAsJson form a c
write_both form later a b c e one two = λ standard is.
    writes_both a b c (one standard is) (two standard (e ∙ is))

pub write_gathered : (form : LogForm) (none text : List ℕ) (a b : Option (List ℕ)) → none ≡ [] →
    GathersAsJson form none text → Appends a b text → WritesAsJson form a b
write_gathered form none text a b e got wrote = λ standard is.
    writes_gathered a b text (subst (λ (l : List ℕ). GathersJsonLines l text) e (got standard is))
    wrote

-- a last call
pub on_json : {A E : Type 0} (result : Result A E) (a b c : Option (List ℕ)) (form later : LogForm)
    (standard : Standard) →
    form ≡ Json standard → later ≡ form → WritesAsJson form a b →
    OnOk result (WritesAsJson later b c) → OnOk result (WritesJsonLines a c)
on_json (Ok x) a b c form later standard is e one two =
    write_both form later a b c e one two standard is
on_json (Err x) a b c form later standard is e one two = tt

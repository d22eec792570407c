-- The words that the program is asked with.
use Rattle.std.specs.Prelude.{◌≡◌, ◌⊎◌, ℕ, IsTrue, List, [], ◌∷◌, map, codes, string_bytes, String}
use Rattle.std.specs.Global.{Global}
use Rattle.about.specs.Asked.{AreWordsFor}
use Rattle.self_id.specs.declared.standard.Standard.{Standard}
use Rattle.self_id.specs.declared.standard.Standard.TheVariants.{Ieee1995, Ieee2000}
use Rattle.script_lines.specs.Name.{is_name}
use Rattle.script_made.specs.Asked.{AreMadeWords}
use Rattle.top_call.specs.Asked.{AsksUnread}
use Rattle.reset_list.specs.declared.form.LogForm.{LogForm}
use Rattle.reset_log.specs.Form.{AreWordsBy as AreResetsWords}
use Rattle.nosy_dump.specs.Form.{AreWordsBy as AreNosyWords}
use Rattle.bus_view.specs.declared.form.CaptureView.TheVariants.{Packets, Tree, Dot, Json}
use Rattle.bus_view.specs.declared.form.ExplainForm.TheVariants as explain
use Rattle.bus_view.specs.declared.form.ViewForm.{ViewForm}
use Rattle.bus_view.specs.declared.form.ViewForm.TheVariants.{Capture, Trace, Waves, DotRun, JsonRun, Script, ListOf, Explain, Resets, Nosy, OfItself}

-- what stands behind the word of a capture's form
abbrev pub standard_words : Standard → List (List ℕ)
standard_words Ieee2000 = []
standard_words Ieee1995 = codes "--1995" ∷ []

-- the words of each form
abbrev pub AreWordsOf : ViewForm → List (List ℕ) → Type 0
AreWordsOf (Capture Packets standard) words = words ≡ codes "packets" ∷ standard_words standard
AreWordsOf (Capture Tree standard) words = words ≡ codes "tree" ∷ standard_words standard
AreWordsOf (Capture Dot standard) words = words ≡ codes "dot" ∷ standard_words standard
AreWordsOf (Capture Json standard) words = words ≡ codes "json" ∷ standard_words standard
AreWordsOf Trace words = words ≡ codes "trace" ∷ []
AreWordsOf Waves words = words ≡ codes "waves" ∷ []
AreWordsOf DotRun words = words ≡ codes "dot-run" ∷ []
AreWordsOf JsonRun words = words ≡ codes "json-run" ∷ []
AreWordsOf (Explain explain.Text) words = words ≡ codes "explain" ∷ []
AreWordsOf (Explain explain.Json) words = words ≡ codes "explain" ∷ codes "--json" ∷ []
AreWordsOf (Script nodes seed) words = AreMadeWords (codes "script") nodes seed words
AreWordsOf (ListOf name) words = (words ≡ codes "capture" ∷ name ∷ []) × IsTrue (is_name name)
AreWordsOf (Resets form) words = AreResetsWords form words
AreWordsOf (Nosy form) words = AreNosyWords form words
AreWordsOf (OfItself about) words = AreWordsFor about words

-- the words are those of the form
abbrev pub Asks : List (String Global) → ViewForm → Type 0
Asks words form = AreWordsOf form (map string_bytes words)

-- the words are those of some form
abbrev pub IsForm : List (String Global) → Type 0
IsForm words = (form : ViewForm) × Asks words form

-- nothing is read with this form
abbrev pub IsUnread : ViewForm → Type 0
IsUnread (Script nodes seed) = Unit {0}
IsUnread (OfItself about) = Unit {0}
IsUnread form = ⊥

-- with these words nothing is read
abbrev pub AsksNoInput : List (String Global) → Type 0
AsksNoInput words = AsksUnread (Asks words) IsUnread

-- with these words the input is shown as it comes, without a limit
abbrev pub AsksLog : List (String Global) → Type 0
AsksLog words = (form : LogForm) × (Asks words (Resets form) ⊎ Asks words (Nosy form))

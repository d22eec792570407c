-- The words that the program is asked with.
use Rattle.std.specs.Prelude.{◌≡◌, ℕ, List, [], ◌∷◌, map, codes, string_bytes, String}
use Rattle.std.specs.Global.{Global}
use Rattle.self_id.specs.declared.standard.Standard.{Standard}
use Rattle.self_id.specs.declared.standard.Standard.TheVariants.{Ieee1995, Ieee2000}
use Rattle.about.specs.Asked.{AreWordsFor}
use Rattle.script_made.specs.Asked.{AreMadeWords}
use Rattle.top_call.specs.Asked.{AsksUnread}
use Rattle.bus_cli.specs.declared.form.Form.{Form}
use Rattle.bus_cli.specs.declared.form.Form.TheVariants.{Capture, Rom, Run, Advice, Make, OfItself}
use Rattle.bus_cli.specs.declared.form.CaptureForm.{CaptureForm}
use Rattle.bus_cli.specs.declared.form.CaptureForm.TheVariants.{Read, Read95, Maps}

-- by which standard each form reads a capture
abbrev pub standard_of : CaptureForm → Standard
standard_of Read = Ieee2000
standard_of Read95 = Ieee1995
standard_of Maps = Ieee2000

-- the words of each form
abbrev pub AreWordsOf : Form → List (List ℕ) → Type 0
AreWordsOf (Capture Read) words = words ≡ codes "read" ∷ []
AreWordsOf (Capture Read95) words = words ≡ codes "read95" ∷ []
AreWordsOf (Capture Maps) words = words ≡ codes "maps" ∷ []
AreWordsOf Rom words = words ≡ codes "rom" ∷ []
AreWordsOf Run words = words ≡ codes "run" ∷ []
AreWordsOf Advice words = words ≡ codes "advice" ∷ []
AreWordsOf (Make nodes seed) words = AreMadeWords (codes "make") nodes seed words
AreWordsOf (OfItself about) words = AreWordsFor about words

-- the words are those of the form
abbrev pub Asks : List (String Global) → Form → Type 0
Asks words form = AreWordsOf form (map string_bytes words)

-- the words are those of some form
abbrev pub IsForm : List (String Global) → Type 0
IsForm words = (form : Form) × Asks words form

-- nothing is read with this form
abbrev pub IsUnread : Form → Type 0
IsUnread (Make nodes seed) = Unit {0}
IsUnread (OfItself about) = Unit {0}
IsUnread form = ⊥

-- with these words nothing is read
abbrev pub AsksNoInput : List (String Global) → Type 0
AsksNoInput words = AsksUnread (Asks words) IsUnread

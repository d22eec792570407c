-- What is said of the faults of a script, which is the list of its lines here.
use Rattle.std.specs.Prelude.{◌≡◌, ℕ, ◌+◌, ◌-◌, List, [], ◌∷◌, ◌++◌, codes, length, take, drop, Option, Some, None}
use Rattle.std.specs.Str.Lossy.{utf8_lossy}
use Rattle.json.specs.Json.{Json, string, Members, no_members, member}
use Rattle.bus_json.specs.Text.{numeral, json_line}
use Rattle.bus_json.specs.Refusal.{with_refusal}
use Rattle.script_run.specs.Line.{kind_word, script_line}
use Rattle.script_lines.specs.declared.kind.Kind.{Kind}
use Rattle.script_lines.specs.declared.kind.ScriptFault.{ScriptFault}
use Rattle.script_words.specs.Before.{feed_lines, ranges_of}
use Rattle.script_words.specs.LineFault.{IsLineFault, IsFaultAt}
use Rattle.script_words.specs.Sentence.{sentence_in}
use Rattle.bus_view.specs.declared.form.ExplainForm.{ExplainForm}
use Rattle.bus_view.specs.declared.form.ExplainForm.TheVariants.{Text, Json as Lines}

-- the line of a script's fault, and below it what stands there and what was wanted
abbrev pub explanation_in : List (List ℕ) → ScriptFault → List ℕ
explanation_in script fault = script_line fault ++ sentence_in script fault

abbrev pub explanation : List ℕ → ScriptFault → List ℕ
explanation bytes fault = explanation_in (feed_lines bytes) fault

-- the same as a line of JSON: the line's number, the kind of its fault, and the sentence without its line
-- feed, with U+FFFD for what isn't UTF-8
abbrev pub said_members : (line : ℕ) → (kind said : List ℕ) → Members
said_members line kind said =
    member (codes "line") (numeral line)
    (member (codes "kind") (string kind) (member (codes "said") (string said) no_members))

abbrev pub explained_value : (line : ℕ) → (kind said : List ℕ) → Json
explained_value line kind said = with_refusal (said_members line kind said)

abbrev pub unended : List ℕ → List ℕ
unended text = take (length text - 1) text

abbrev pub explained_line : List (List ℕ) → ScriptFault → List ℕ
explained_line script fault =
    json_line
    (explained_value fault.line (kind_word fault.kind)
    (utf8_lossy (unended (sentence_in script fault))))

-- ---- of each fault

abbrev pub told_in : ExplainForm → List (List ℕ) → ScriptFault → List ℕ
told_in Text = explanation_in
told_in Lines = explained_line

-- what is written where there is none
abbrev pub no_fault : ExplainForm → List ℕ
no_fault Text = codes "no fault\n"
no_fault Lines = []

-- what is said of the line of this number, where it is at fault
abbrev pub line_said : ExplainForm → List (List ℕ) → ℕ → Option Kind → List ℕ
line_said form script number None = []
line_said form script number (Some kind) = told_in form script (record { line = number; kind = kind })

-- what is said of these lines, of which the first has this number: of each that is at fault by its own
-- words what is told of it
abbrev pub AreSaid : ExplainForm → List (List ℕ) → ℕ → List (List ℕ) → List ℕ → Type 0
AreSaid form script number [] text = text ≡ []
AreSaid form script number (line ∷ lines) text =
    (fault : Option Kind) × IsLineFault (ranges_of script) line fault
    × ((rest : List ℕ) × AreSaid form script (number + 1) lines rest
    × (text ≡ line_said form script number fault ++ rest))

-- Behind a line that is at fault by its own words each other such line is told, for which no bus is needed.
-- Behind a fault that lies in the bus nothing is.
abbrev pub IsBehind : ExplainForm → List (List ℕ) → ℕ → Option Kind → List ℕ → Type 0
IsBehind form script line None text = text ≡ []
IsBehind form script line (Some kind) text = AreSaid form script (line + 1) (drop line script) text

-- the first fault of a script is explained, and what is behind it
pub record IsExplained
    (form : ExplainForm) (script : List (List ℕ)) (fault : ScriptFault) (text : List ℕ) : Type 0 where
  pub own : Option Kind
  pub is_own : IsFaultAt script (fault.line - 1) own
  pub rest : List ℕ
  pub behind : IsBehind form script fault.line own rest
  pub text_is : text ≡ told_in form script fault ++ rest

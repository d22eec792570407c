-- A line of a script: nothing, a command or a fault.
use Rattle.std.specs.Prelude.{◌≡◌, ℕ, ◌==◌, ◌⊎◌, not, IsTrue, Bool, true, List, find, Option, Some, None, Result, Ok, Err}
use Rattle.std.specs.List.{list_all}
use Rattle.std.specs.Str.Lines.{strip_carriage_return}
use Rattle.port_state.specs.declared.ranges.TimeRanges.{TimeRanges}
use Rattle.script_lines.specs.declared.kind.Kind.{Kind}
use Rattle.script_lines.specs.declared.kind.Kind.TheVariants.{Word}
use Rattle.script_lines.specs.declared.command.Command.{Command}
use Rattle.script_lines.specs.Words.{is_blank, is_permitted, words_of}
use Rattle.script_lines.specs.Shape.{fit, first_wrong}
use Rattle.script_lines.specs.Form.{Form, shapes, command_of}
use Rattle.script_lines.specs.Node.{has_node_form, wrong_node, node_command}

-- the forms of lines
pub data LineForm : Type 0 where
  node : LineForm
  other : Form → LineForm

abbrev pub has_form : LineForm → List (List ℕ) → Bool
has_form node words = has_node_form words
has_form (other form) words = fit (shapes form) words

-- what is wrong with the first word at fault, where the words have the form
abbrev pub wrong_word : TimeRanges → LineForm → List (List ℕ) → Option Kind
wrong_word times node words = wrong_node times words
wrong_word times (other form) words = first_wrong (shapes form) words

-- what the words say, where they have the form and none is wrong
abbrev pub meaning : LineForm → List (List ℕ) → Command
meaning node words = node_command words
meaning (other form) words = command_of form words

-- The words are those of a command: they have a form, none is wrong, and the command is what they
-- say.
pub record IsCommand (times : TimeRanges) (words : List (List ℕ)) (command : Command) : Type 0 where
  pub form : LineForm
  pub has : IsTrue (has_form form words)
  pub right : wrong_word times form words ≡ None
  pub says : command ≡ meaning form words

-- The words have a form, and the first word at fault has this kind of fault.
pub record IsWrong (times : TimeRanges) (words : List (List ℕ)) (kind : Kind) : Type 0 where
  pub form : LineForm
  pub has : IsTrue (has_form form words)
  pub wrong : wrong_word times form words ≡ Some kind

-- The words have none of the forms.
abbrev pub HasNoForm : List (List ℕ) → Type 0
HasNoForm words = (form : LineForm) → IsTrue (has_form form words) → ⊥

-- no character but blanks, or the first of the others is `#`
abbrev pub begins_none : Option ℕ → Bool
begins_none None = true
begins_none (Some c) = c == 35

abbrev pub is_skipped : List ℕ → Bool
is_skipped line = begins_none (find (λ c. not (is_blank c)) line)

abbrev pub is_permitted_line : List ℕ → Bool
is_permitted_line line = list_all is_permitted line

-- The line has a byte that isn't permitted, or its words have none of the forms.
abbrev pub IsNoLine : List ℕ → Type 0
IsNoLine line = IsTrue (not (is_permitted_line line)) ⊎ HasNoForm (words_of line)

-- A line without the carriage return at its end is nothing where it is skipped. Else it is a
-- command, or it has a fault: `Word` where it is no line, and else that of the first word at fault.
abbrev pub ReadsStripped : TimeRanges → List ℕ → Result (Option Command) Kind → Type 0
ReadsStripped times line (Ok None) = IsTrue (is_skipped line)
ReadsStripped times line (Ok (Some command)) =
    IsTrue (not (is_skipped line))
    × (IsTrue (is_permitted_line line) × IsCommand times (words_of line) command)
ReadsStripped times line (Err kind) =
    IsTrue (not (is_skipped line))
    × (((kind ≡ Word) × IsNoLine line)
    ⊎ (IsTrue (is_permitted_line line) × IsWrong times (words_of line) kind))

-- what a line of a script is, where the times of nodes are in these ranges
abbrev pub ReadsLine : TimeRanges → List ℕ → Result (Option Command) Kind → Type 0
ReadsLine times line reading = ReadsStripped times (strip_carriage_return line) reading

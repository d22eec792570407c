-- Reading by forms, one after the other.
use Rattle.std.specs.Prelude.{ℕ, List, [], ◌∷◌, Option, Some, None, Result, Ok, Err, if◌then◌else◌}
use Rattle.port_state.specs.declared.ranges.TimeRanges.{TimeRanges}
use Rattle.script_lines.specs.declared.command.Command.{Command}
use Rattle.script_lines.specs.declared.kind.Kind.{Kind}
use Rattle.script_lines.specs.declared.kind.Kind.TheVariants.{Word}
use Rattle.script_lines.specs.Shape.{fit, first_wrong}
use Rattle.script_lines.specs.Form.{Form, forms, shapes, command_of}
use Rattle.script_lines.specs.Node.{has_node_form, wrong_node, node_command}
use Rattle.script_lines.specs.Words.{words_of}
use Rattle.script_lines.specs.Line.{is_skipped, is_permitted_line}

-- the value, unless there is a fault
abbrev pub unless : Option Kind → Command → Result Command Kind
unless None command = Ok command
unless (Some kind) command = Err kind

-- what words say by the first of these forms that they have
abbrev pub read_by : List Form → List (List ℕ) → Result Command Kind
read_by [] words = Err Word
read_by (form ∷ forms) words =
    if fit (shapes form) words then unless (first_wrong (shapes form) words) (command_of form words)
    else read_by forms words

-- what words say that declare a node or say nothing
abbrev pub read_node : TimeRanges → List (List ℕ) → Result Command Kind
read_node times words =
    if has_node_form words then unless (wrong_node times words) (node_command words) else Err Word

-- what words say
abbrev pub read_words : TimeRanges → List (List ℕ) → Result Command Kind
read_words times words =
    if has_node_form words then unless (wrong_node times words) (node_command words)
    else read_by forms words

-- a command that stands in a line
abbrev pub in_line : Result Command Kind → Result (Option Command) Kind
in_line (Ok command) = Ok (Some command)
in_line (Err kind) = Err kind

-- what a line says that has no carriage return at its end
abbrev pub read_line : TimeRanges → List ℕ → Result (Option Command) Kind
read_line times line =
    if is_skipped line then Ok None
    else if is_permitted_line line then in_line (read_words times (words_of line)) else Err Word

-- What `parse_line` answers.
use Rattle.std.specs.Prelude.{◌≡◌, ℕ, List, Option, Result, Ok, Err}
use Rattle.port_state.specs.declared.ranges.TimeRanges.{TimeRanges}
use Rattle.script_lines.specs.declared.kind.Kind.{Kind}
use Rattle.script_lines.specs.declared.kind.LineStop.{LineStop}
use Rattle.script_lines.specs.declared.kind.LineStop.TheVariants.{Fault, Memory}
use Rattle.script_lines.specs.declared.command.Command.{Command}
use Rattle.script_lines.specs.Line.{ReadsLine}

-- a stop for a fault is the line's fault
abbrev pub Refuses : TimeRanges → List ℕ → LineStop → Type 0
Refuses times line (Fault kind) = ReadsLine times line (Err kind)
Refuses times line (Memory none) = Unit {0}

-- an answer is this reading, unless there was no memory
abbrev pub AnswersReading : Result (Option Command) LineStop → Result (Option Command) Kind → Type 0
AnswersReading (Ok command) reading = reading ≡ Ok command
AnswersReading (Err (Fault kind)) reading = reading ≡ Err kind
AnswersReading (Err (Memory none)) reading = Unit {0}

-- no line is two things
abbrev pub OneReading : Type 0
OneReading =
    (times : TimeRanges) (line : List ℕ) (one other : Result (Option Command) Kind)
    → ReadsLine times line one → ReadsLine times line other → one ≡ other

-- each line is something
abbrev pub SomeReading : Type 0
SomeReading =
    (times : TimeRanges) (line : List ℕ)
    → (reading : Result (Option Command) Kind) × ReadsLine times line reading

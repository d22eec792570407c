-- The run of a script: the commands that are done, one after the other, and what stops it. All that is
-- said of a script, its text, its reports, its trace and the bus at its end, is read off its run.
use Rattle.std.specs.Prelude.{◌≡◌, ℕ, ◌+◌, List, [], ◌∷◌, ◌++◌, Option, None, Some, Result, Ok, Err}
use Rattle.script_lines.specs.declared.kind.Kind.{Kind}
use Rattle.script_lines.specs.declared.kind.ScriptFault.{ScriptFault}
use Rattle.script_lines.specs.declared.command.Command.{Command}
use Rattle.script_lines.specs.declared.command.Command.TheVariants.{Settle}
use Rattle.script_lines.specs.Line.{ReadsLine}
use Rattle.script_told.specs.Bus.{Bus}
use Rattle.script_told.specs.Step.{LineAnswer, DoesSettle}
use Rattle.script_told.specs.Script.{Stage, fresh, running, StageAnswer, bus_of, ranges_of, DoesAtStage, ScriptResult, fault_at, script_lines}

-- A command that was done: the number of its line, what the script had come to before it and behind
-- it, and what it printed.
pub record Entry : Type 0 where
  pub line : ℕ
  pub before : Stage
  pub command : Command
  pub after : Stage
  pub text : List ℕ

-- The commands that were done, and the bus that is left at the end, or the fault that stopped the
-- script. The last command is the `settle` behind the last line.
pub record ScriptRun : Type 0 where
  pub entries : List Entry
  pub end : Result Bus ScriptFault

-- ---- the lines, one after the other

abbrev pub done : ℕ → Stage → Command → Stage → List ℕ → Entry
done number before command after text =
    record { line = number; before = before; command = command; after = after; text = text }

-- nothing is done, for this fault
abbrev pub stopped : ℕ → Kind → ScriptRun
stopped number kind = record { entries = []; end = Err (fault_at number kind) }

-- these commands are done, and then those of the run
abbrev pub behind : List Entry → ScriptRun → ScriptRun
behind entries run = record { entries = entries ++ run.entries; end = run.end }

-- the bus settles once more, under the number behind that of the last line
abbrev pub last_run : ℕ → Stage → LineAnswer → ScriptRun
last_run number stage (Ok (bus, text)) =
    record { entries = done number stage Settle (running bus) text ∷ []; end = Ok bus }
last_run number stage (Err kind) = stopped number kind

abbrev pub RunEnds : ℕ → Stage → ScriptRun → Type 0
RunEnds number stage run =
    (r : LineAnswer) × DoesSettle (bus_of stage) r × (run ≡ last_run number stage r)

-- a command is done, and the rest goes on from where it led; or it is at fault
abbrev pub Proceeds :
    ℕ → (Stage → ScriptRun → Type 0) → Stage → Command → StageAnswer → ScriptRun → Type 0
Proceeds number Rest stage command (Ok (next, text)) run =
    (more : ScriptRun) × Rest next more
    × (run ≡ behind (done number stage command next text ∷ []) more)
Proceeds number Rest stage command (Err kind) run = run ≡ stopped number kind

-- a line that was read is nothing, a command or at fault
abbrev pub TakesLine :
    ℕ → (Stage → ScriptRun → Type 0) → Stage → Result (Option Command) Kind → ScriptRun → Type 0
TakesLine number Rest stage (Ok None) run = Rest stage run
TakesLine number Rest stage (Ok (Some command)) run =
    (r : StageAnswer) × DoesAtStage stage command r × Proceeds number Rest stage command r run
TakesLine number Rest stage (Err kind) run = run ≡ stopped number kind

-- the run of these lines from a stage on, of which the first has this number
abbrev pub RunsFrom : ℕ → List (List ℕ) → Stage → ScriptRun → Type 0
RunsFrom number [] stage run = RunEnds number stage run
RunsFrom number (line ∷ lines) stage run =
    (reading : Result (Option Command) Kind) × ReadsLine (ranges_of stage) line reading
    × TakesLine number (RunsFrom (number + 1) lines) stage reading run

-- the run of a script
abbrev pub IsRun : List ℕ → ScriptRun → Type 0
IsRun bytes run = RunsFrom 1 (script_lines bytes) fresh run

-- ---- what it prints

-- what commands print, one after the other
abbrev pub printed : List Entry → List ℕ
printed [] = []
printed (entry ∷ entries) = entry.text ++ printed entries

-- this text, unless a fault stopped the script
abbrev pub unless_stopped : List ℕ → Result Bus ScriptFault → ScriptResult
unless_stopped text (Ok bus) = Ok text
unless_stopped text (Err fault) = Err fault

-- what a run tells: the text that its commands print, or its fault
abbrev pub result_of : ScriptRun → ScriptResult
result_of run = unless_stopped (printed run.entries) run.end

-- A script's text is what the commands of its run print. Or it is refused for the fault of its first
-- bad line.
abbrev pub IsResult : List ℕ → ScriptResult → Type 0
IsResult bytes told = (run : ScriptRun) × IsRun bytes run × (told ≡ result_of run)

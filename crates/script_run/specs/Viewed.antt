-- The reports of a script as a picture and as data.
use Rattle.std.specs.Prelude.{◌≡◌, ℕ, Bool, true, false, MatchBool, List, [], ◌∷◌, ◌++◌, Ok, Err}
use Rattle.script_told.specs.Bus.{Bus}
use Rattle.script_told.specs.Script.{Stage, ScriptResult, bus_of}
use Rattle.script_told.specs.Run.{Entry, ScriptRun, IsRun}
use Rattle.script_lines.specs.declared.command.Command.{Command}
use Rattle.script_lines.specs.declared.command.Command.TheVariants.{Settle, Plan}
use Rattle.script_bus.specs.Viewed.{IsGraphOf, IsLineOf, IsReadLineOf}

-- ---- what is told of a run

-- what is told of a run that ends with a bus, and else the run's fault
abbrev pub IsToldOf : (ScriptRun → Bus → List ℕ → Type 0) → ScriptRun → ScriptResult → Type 0
IsToldOf Tells run (Ok text) = (bus : Bus) × (run.end ≡ Ok bus) × Tells run bus text
IsToldOf Tells run (Err fault) = run.end ≡ Err fault

-- the same of the run of a script
abbrev pub IsTold : (ScriptRun → Bus → List ℕ → Type 0) → List ℕ → ScriptResult → Type 0
IsTold Tells bytes told = (run : ScriptRun) × IsRun bytes run × IsToldOf Tells run told

-- `settle` and `plan` print a report
abbrev pub prints_report : Command → Bool
prints_report Settle = true
prints_report (Plan name) = true
prints_report command = false

-- What is written of a command: by whether it prints a report, the stage to which it leads, and what
-- it prints.
abbrev pub Writing : Type 1
Writing = Bool → Stage → List ℕ → List ℕ → Type 0

-- what is written of commands, one after the other
abbrev pub AllWritten : Writing → List Entry → List ℕ → Type 0
AllWritten Writes [] text = text ≡ []
AllWritten Writes (entry ∷ entries) text =
    (one : List ℕ) × (more : List ℕ)
    × Writes (prints_report entry.command) entry.after entry.text one
    × AllWritten Writes entries more × (text ≡ one ++ more)

-- ---- the picture

-- the graph of the report at the end of a run
abbrev pub is_picture : ScriptRun → Bus → List ℕ → Type 0
is_picture run = IsGraphOf

abbrev pub IsPictureOf : ScriptRun → ScriptResult → Type 0
IsPictureOf = IsToldOf is_picture

-- The graph of a script: that of the report of the `settle` behind its last line.
abbrev pub IsPictured : List ℕ → ScriptResult → Type 0
IsPictured = IsTold is_picture

-- ---- the lines of the reports

-- the line of a report, and nothing where none is printed
abbrev pub IsLineAfter : Writing
IsLineAfter prints after text line = MatchBool prints (IsLineOf (bus_of after) line) (line ≡ [])

-- the lines of the reports of a run
abbrev pub are_lines : ScriptRun → Bus → List ℕ → Type 0
are_lines run bus = AllWritten IsLineAfter run.entries

abbrev pub AreLinesOf : ScriptRun → ScriptResult → Type 0
AreLinesOf = IsToldOf are_lines

-- The reports of a script as JSON: a line for each that it prints.
abbrev pub AreReported : List ℕ → ScriptResult → Type 0
AreReported = IsTold are_lines

-- ---- lines that are read back

-- the line of a report, which is read back as the value of the report
abbrev pub IsReadAfter : Writing
IsReadAfter prints after text line =
    MatchBool prints (IsReadLineOf (bus_of after) line) (line ≡ [])

-- the lines are those of the reports of a script, and each is read back as the value of its report
pub record AreReadBack (bytes text : List ℕ) : Type 0 where
  pub run : ScriptRun
  pub is : IsRun bytes run
  pub bus : Bus
  pub end : run.end ≡ Ok bus
  pub lines : AllWritten IsReadAfter run.entries text

-- How the lines of a script are gone through.
use Rattle.std.specs.Prelude.{◌≡◌, ◌⊎◌, ℕ, ◌+◌, Bool, true, MatchBool, List, ◌++◌, length, None, Some, Ok, Err}
use Rattle.script_lines.specs.declared.kind.Kind.{Kind}
use Rattle.script_lines.specs.declared.kind.LineStop.{LineStop}
use Rattle.script_lines.specs.declared.kind.LineStop.TheVariants as line
use Rattle.script_lines.specs.declared.kind.ScriptStop.{ScriptStop}
use Rattle.script_lines.specs.declared.kind.ScriptStop.TheVariants as script
use Rattle.script_lines.specs.declared.command.Command.{Command}
use Rattle.script_lines.specs.declared.command.Command.TheVariants.{Settle}
use Rattle.script_run.specs.declared.stage.Phase.{Phase}
use Rattle.script_run.specs.declared.stage.Phase.TheVariants.{Fresh, Declaring, Running}
use Rattle.script_lines.specs.Line.{ReadsLine}
use Rattle.script_told.specs.Bus.{Bus}
use Rattle.script_told.specs.Step.{DoesSettle}
use Rattle.script_told.specs.Script.{Stage, fresh, declaring, running, bus_of, ranges_of, DoesAtStage, fault_at, script_lines}
use Rattle.script_told.specs.Run.{Entry, ScriptRun, behind, RunsFrom, IsRun}
use Rattle.script_trace.specs.Voice.{Voice}
use Rattle.script_trace.specs.Trace.{TracesAt, AllTrace}
use Rattle.script_bus.specs.Viewed.{IsTextOf}
use Rattle.script_run.specs.Viewed.{Writing, AllWritten, prints_report}
use Rattle.script_run.specs.codings.Declaring.{draft_now, IsDraft}

abbrev pub stage_now : Phase → Stage
stage_now Fresh = fresh
stage_now (Declaring draft) = declaring (draft_now draft.value)
stage_now (Running bus) = running bus

abbrev pub IsPhase : Phase → Type 0
IsPhase Fresh = Unit {0}
IsPhase (Declaring draft) = IsDraft draft.value
IsPhase (Running bus) = Unit {0}

-- a command led from a stage to the next, and a listener added what its voice tells of that to its text
pub record HearsAt
    (voice : Voice) (stage : Stage) (command : Command) (next : Stage) (out new : List ℕ) :
    Type 0 where
  pub lines : List ℕ
  pub traces : TracesAt voice stage command next lines
  pub written : new ≡ out ++ lines

-- what a command prints that leads to a stage: these words, and behind them the report, if it prints one
abbrev pub Prints : Bool → Stage → List ℕ → List ℕ → Type 0
Prints prints next words text =
    MatchBool prints ((report : List ℕ) × IsTextOf (bus_of next) report × (text ≡ words ++ report))
    (text ≡ words)

-- what is written of a command that led to a stage and printed this, was added
pub record IsAdded
    (Writes : Writing) (prints : Bool) (next : Stage) (text before after : List ℕ) : Type 0 where
  pub added : List ℕ
  pub is : Writes prints next text added
  pub after_is : after ≡ before ++ added

-- a command led from a stage to the next; what is written of it was added, and what a voice tells
pub record Follows
    (voice : Voice) (Writes : Writing) (stage : Stage) (command : Command) (next : Stage)
    (before after out new : List ℕ) : Type 0 where
  pub text : List ℕ
  pub does : DoesAtStage stage command (Ok (next, text))
  pub written : IsAdded Writes (prints_report command) next text before after
  pub heard : HearsAt voice stage command next out new

-- a line leads from a stage to the next, as the command in it does
abbrev pub LineLeads :
    Voice → Writing → Stage → List ℕ → Stage → List ℕ → List ℕ → List ℕ → List ℕ → Type 0
LineLeads voice Writes stage line next before after out new =
    (ReadsLine (ranges_of stage) line (Ok None) × (next ≡ stage) × (after ≡ before) × (new ≡ out))
    ⊎ ((command : Command) × ReadsLine (ranges_of stage) line (Ok (Some command))
    × Follows voice Writes stage command next before after out new)

-- a line is at fault
abbrev pub LineFails : Stage → List ℕ → Kind → Type 0
LineFails stage line kind =
    ReadsLine (ranges_of stage) line (Err kind)
    ⊎ ((command : Command) × ReadsLine (ranges_of stage) line (Ok (Some command))
    × DoesAtStage stage command (Err kind))

-- the bus of a stage settles to this one, of which the same was added
pub record Ends
    (voice : Voice) (Writes : Writing) (stage : Stage) (bus : Bus) (before after out new : List ℕ) :
    Type 0 where
  pub text : List ℕ
  pub settles : DoesSettle (bus_of stage) (Ok (bus, text))
  pub written : IsAdded Writes true (running bus) text before after
  pub heard : HearsAt voice stage Settle (running bus) out new

-- the stop of a script at a line
abbrev pub stop_at : ℕ → LineStop → ScriptStop
stop_at number (line.Fault kind) = script.Fault (fault_at number kind)
stop_at number (line.Memory error) = script.Memory error

-- the lines that were taken did these commands, and the script's run is these and what the lines that
-- are left make
abbrev pub Went : List ℕ → List Entry → ℕ → List (List ℕ) → Stage → Type 0
Went bytes entries number lines stage =
    (more : ScriptRun) → RunsFrom number lines stage more → IsRun bytes (behind entries more)

-- so they went, these lines are left, this is what was written of the commands, and what a voice tells
pub record HaveGone
    (voice : Voice) (Writes : Writing) (bytes text heard : List ℕ) (number : ℕ)
    (lines : List (List ℕ)) (stage : Stage) : Type 0 where
  pub counted : number + length lines ≡ length (script_lines bytes) + 1
  pub entries : List Entry
  pub went : Went bytes entries number lines stage
  pub written : AllWritten Writes entries text
  pub told : AllTrace voice entries heard

-- the run of a script comes to this bus, and this is what was written of it, and what a voice tells
pub record IsRead
    (voice : Voice) (Writes : Writing) (bytes : List ℕ) (bus : Bus) (text heard : List ℕ) : Type 0
  where
    pub run : ScriptRun
    pub is : IsRun bytes run
    pub ends : run.end ≡ Ok bus
    pub written : AllWritten Writes run.entries text
    pub told : AllTrace voice run.entries heard

-- The dump of a script: its nodes, and then what changes in its one run, act by act and turn by turn.
use Rattle.std.specs.Prelude.{◌≡◌, ℕ, List, ◌++◌, Ok, Err}
use Rattle.script_told.specs.Bus.{Bus}
use Rattle.script_told.specs.Script.{ScriptResult}
use Rattle.script_told.specs.Run.{ScriptRun, IsRun}
use Rattle.script_trace.specs.Trace.{AllTrace}
use Rattle.script_trace.specs.Voice.{legend_of}
use Rattle.script_trace.specs.waves.Moment.{waves_voice}
use Rattle.script_trace.specs.waves.Head.{head}

-- the dump of a run that ends with this bus
pub record IsDump (run : ScriptRun) (bus : Bus) (text : List ℕ) : Type 0 where
  pub changes : List ℕ
  pub told : AllTrace waves_voice run.entries changes
  pub text_is : text ≡ head (legend_of bus.notes) bus.world ++ changes

-- or the run's fault
abbrev pub IsWavesOf : ScriptRun → ScriptResult → Type 0
IsWavesOf run (Ok text) = (bus : Bus) × (run.end ≡ Ok bus) × IsDump run bus text
IsWavesOf run (Err fault) = run.end ≡ Err fault

-- The dump of a script, or the fault of its first bad line.
abbrev pub IsWaves : List ℕ → ScriptResult → Type 0
IsWaves bytes told = (run : ScriptRun) × IsRun bytes run × IsWavesOf run told

-- What `run_script` and `advise_script` answer.
use Rattle.std.specs.Prelude.{◌≡◌, ℕ, List, Err}
use Rattle.script_lines.specs.declared.kind.ScriptStop.{ScriptStop}
use Rattle.script_lines.specs.declared.kind.ScriptStop.TheVariants.{Fault, Memory}
use Rattle.script_told.specs.Script.{ScriptResult}
use Rattle.script_told.specs.Run.{IsResult}
use Rattle.script_advice.specs.Advice.{IsAdvice}

-- a stop for a fault is the fault that is told
abbrev pub StopsWith : (ScriptResult → Type 0) → ScriptStop → Type 0
StopsWith Tells (Fault fault) = Tells (Err fault)
StopsWith Tells (Memory none) = Unit {0}

-- a stop for a fault is the script's fault
abbrev pub IsRefused : List ℕ → ScriptStop → Type 0
IsRefused bytes = StopsWith (IsResult bytes)

-- a stop for a fault is that of the script or of its advice
abbrev pub IsAdviceRefused : List ℕ → ScriptStop → Type 0
IsAdviceRefused bytes = StopsWith (IsAdvice bytes)

-- a stop for a fault is all that the script tells
abbrev pub IsOnlyFault : ScriptResult → ScriptStop → Type 0
IsOnlyFault told (Fault fault) = told ≡ Err fault
IsOnlyFault told (Memory none) = Unit {0}

-- A script has one dump, exactly where it has a text.
use Rattle.std.specs.Prelude.{◌≡◌, ℕ, List, Ok, Err}
use Rattle.script_lines.specs.declared.kind.ScriptFault.{ScriptFault}
use Rattle.script_told.specs.Script.{ScriptResult}
use Rattle.script_told.specs.Run.{ScriptRun, IsRun, IsResult}
use Rattle.script_trace.specs.waves.Waves.{IsWaves, IsWavesOf}

abbrev pub ScriptsHaveOneDump : Type 0
ScriptsHaveOneDump =
    (bytes : List ℕ) (one other : ScriptResult) → IsWaves bytes one → IsWaves bytes other →
    one ≡ other

-- a script with a dump has a text
abbrev pub DumpedScriptsAreTold : Type 0
DumpedScriptsAreTold =
    (bytes dump : List ℕ) → IsWaves bytes (Ok dump) →
    (text : List ℕ) × IsResult bytes (Ok text)

-- and its fault is the same
abbrev pub DumpFaultsAreTold : Type 0
DumpFaultsAreTold =
    (bytes : List ℕ) (fault : ScriptFault) → IsWaves bytes (Err fault) → IsResult bytes (Err fault)

-- each run has a dump
pub record HasDump (run : ScriptRun) : Type 0 where
  pub told : ScriptResult
  pub is : IsWavesOf run told

abbrev pub RunsHaveDumps : Type 0
RunsHaveDumps = (bytes : List ℕ) (run : ScriptRun) → IsRun bytes run → HasDump run

-- A script has one trace, exactly where it has a text.
use Rattle.std.specs.Prelude.{◌≡◌, ℕ, List, Ok, Err}
use Rattle.script_lines.specs.declared.kind.ScriptFault.{ScriptFault}
use Rattle.script_told.specs.Script.{ScriptResult}
use Rattle.script_told.specs.Run.{ScriptRun, IsRun, IsResult}
use Rattle.script_trace.specs.Trace.{IsTraceOf, IsTrace}

abbrev pub ScriptsHaveOneTrace : Type 0
ScriptsHaveOneTrace =
    (bytes : List ℕ) (one other : ScriptResult) → IsTrace bytes one → IsTrace bytes other →
    one ≡ other

-- a script with a trace has a text
abbrev pub TracedScriptsAreTold : Type 0
TracedScriptsAreTold =
    (bytes lines : List ℕ) → IsTrace bytes (Ok lines) →
    (text : List ℕ) × IsResult bytes (Ok text)

-- and its fault is the same
abbrev pub TraceFaultsAreTold : Type 0
TraceFaultsAreTold =
    (bytes : List ℕ) (fault : ScriptFault) → IsTrace bytes (Err fault) → IsResult bytes (Err fault)

-- each run has a trace
pub record HasTrace (run : ScriptRun) : Type 0 where
  pub told : ScriptResult
  pub is : IsTraceOf run told

abbrev pub RunsHaveTraces : Type 0
RunsHaveTraces = (bytes : List ℕ) (run : ScriptRun) → IsRun bytes run → HasTrace run

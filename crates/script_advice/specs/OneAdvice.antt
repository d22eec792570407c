-- No script has two advices, and none leaves a loop.
use Rattle.std.specs.Prelude.{◌≡◌, ℕ, List, Some, Ok}
use Rattle.settle.specs.declared.report.Report.{Report}
use Rattle.script_told.specs.Bus.{Bus}
use Rattle.script_told.specs.Script.{ScriptResult}
use Rattle.script_advice.specs.Advice.{RunsTo, Advises, IsAdvice, ReportsNoLoop, EndsWithoutLoop}

abbrev pub ScriptsHaveOneAdvice : Type 0
ScriptsHaveOneAdvice =
    (bytes : List ℕ) (one other : ScriptResult) → IsAdvice bytes one → IsAdvice bytes other →
    one ≡ other

-- no component of the report that an advice ends with is a loop
abbrev pub AdvicesLeaveNoLoop : Type 0
AdvicesLeaveNoLoop =
    (bytes text : List ℕ) (bus after : Bus) (report : Report) → RunsTo bytes bus →
    Advises bus (Ok (after, text)) → after.notes.report ≡ Some report →
    ReportsNoLoop report

-- the text of an advice is one without a loop
abbrev pub AdvicesEndWithoutLoop : Type 0
AdvicesEndWithoutLoop =
    (bytes text : List ℕ) → IsAdvice bytes (Ok text) → EndsWithoutLoop bytes text

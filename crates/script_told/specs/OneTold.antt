-- A script has one run at most, and so tells one thing at most.
use Rattle.std.specs.Prelude.{◌≡◌, ℕ, List}
use Rattle.script_told.specs.Script.{ScriptResult}
use Rattle.script_told.specs.Run.{ScriptRun, IsRun, IsResult}

abbrev pub ScriptsHaveOneRun : Type 0
ScriptsHaveOneRun =
    (bytes : List ℕ) (one other : ScriptRun) → IsRun bytes one → IsRun bytes other → one ≡ other

abbrev pub ScriptsTellOneThing : Type 0
ScriptsTellOneThing =
    (bytes : List ℕ) (one other : ScriptResult) → IsResult bytes one → IsResult bytes other →
    one ≡ other

-- A made script is a valid one.
use Rattle.std.specs.Prelude.{◌≡◌, ℕ, ◌≤◌, List, Ok}
use Rattle.script_made.specs.Made.{made_script}
use Rattle.script_told.specs.Bus.{Bus}
use Rattle.script_told.specs.Script.{ScriptResult}
use Rattle.script_told.specs.Run.{ScriptRun, IsRun, IsResult}

-- no line of a made script stops its run
abbrev pub MadeScriptsRunThrough : Type 0
MadeScriptsRunThrough =
    (nodes seed : ℕ) (run : ScriptRun) → nodes ≤ 63 → IsRun (made_script nodes seed) run →
    (bus : Bus) × (run.end ≡ Ok bus)

-- what a made script tells is a text, and no fault of a line
abbrev pub MadeScriptsHaveNoFault : Type 0
MadeScriptsHaveNoFault =
    (nodes seed : ℕ) (told : ScriptResult) → nodes ≤ 63 → IsResult (made_script nodes seed) told →
    (text : List ℕ) × (told ≡ Ok text)

-- Each script has a run, whatever its bytes are.
use Rattle.std.specs.Prelude.{ℕ, List}
use Rattle.script_told.specs.Run.{ScriptRun, IsRun}

pub record HasRun (bytes : List ℕ) : Type 0 where
  pub run : ScriptRun
  pub is : IsRun bytes run

abbrev pub EachScriptHasARun : Type 0
EachScriptHasARun = (bytes : List ℕ) → HasRun bytes

-- Each script has an advice, whatever its bytes are.
use Rattle.std.specs.Prelude.{ℕ, List}
use Rattle.script_told.specs.Script.{ScriptResult}
use Rattle.script_advice.specs.Advice.{IsAdvice}

pub record HasSomeAdvice (bytes : List ℕ) : Type 0 where
  pub told : ScriptResult
  pub is : IsAdvice bytes told

abbrev pub EachScriptHasAnAdvice : Type 0
EachScriptHasAnAdvice = (bytes : List ℕ) → HasSomeAdvice bytes

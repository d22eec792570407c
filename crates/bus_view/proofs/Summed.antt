-- What `busconf run` answers to the script that is made.
use Rattle.std.proofs.Common.{◌≡◌, ℕ, ◌≤◌, List, inl, inr, Ok, Err, refl}
use Rattle.script_lines.specs.declared.kind.ScriptFault.{ScriptFault}
use Rattle.script_made.specs.Made.{made_script}
use Rattle.script_made.specs.MadeValid.{MadeScriptsHaveNoFault}
use Rattle.script_told.specs.Script.{ScriptResult}
use Rattle.script_run.specs.Answer.{AnswersRun, AnswersMake}
use Rattle.script_text.specs.Summary.{summary}
use Rattle.bus_view.specs.Summed.{MakeSumsUpTheScript}

apart : (f : ScriptFault) (text : List ℕ) → ◌≡◌ {A = ScriptResult} (Err f) (Ok text) → ⊥
apart f text e = cc

runs : MadeScriptsHaveNoFault → (nodes seed : ℕ) → nodes ≤ 63 → (status : ℕ) (text : List ℕ) →
    AnswersRun (made_script nodes seed) status text → AnswersMake nodes seed status (summary text)
runs good nodes seed few status text (inl is) = (is.0, (text, is.1, refl))
runs good nodes seed few status text (inr is) =
    let told = good nodes seed (Err is.1.0) few is.1.1 in absurd (apart is.1.0 told.0 told.1)

pub summed : MadeScriptsHaveNoFault → MakeSumsUpTheScript
summed good nodes seed few = record { text_is = refl; summed = runs good nodes seed few }

-- The script of `script N SEED` is the one that `busconf make N SEED` runs.
use Rattle.std.specs.Prelude.{◌≡◌, ℕ, ◌≤◌, List}
use Rattle.script_text.specs.Summary.{summary}
use Rattle.script_made.specs.Made.{made_script}
use Rattle.script_run.specs.Answer.{AnswersRun, AnswersMake}

-- the text is the script of these; whatever `busconf run` answers to it, `busconf make` has that status
-- and writes the summary
pub record IsSummedScript (nodes seed : ℕ) (text : List ℕ) : Type 0 where
  pub text_is : text ≡ made_script nodes seed
  pub summed : (status : ℕ) (printed : List ℕ) → AnswersRun text status printed →
      AnswersMake nodes seed status (summary printed)

-- each script that is made is such a text
abbrev pub MakeSumsUpTheScript : Type 0
MakeSumsUpTheScript =
    (nodes seed : ℕ) → nodes ≤ 63 → IsSummedScript nodes seed (made_script nodes seed)

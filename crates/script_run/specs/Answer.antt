-- What is answered to a script: the text of its run, of its advice or of what is made, or the line of its fault.
use Rattle.std.specs.Prelude.{◌≡◌, ℕ, List, All, Ok, Err}
use Rattle.script_lines.specs.declared.kind.ScriptFault.{ScriptFault}
use Rattle.script_text.specs.Summary.{summary}
use Rattle.script_made.specs.Made.{made_script}
use Rattle.script_told.specs.Bus.{Bus}
use Rattle.script_told.specs.Reached.{world_of}
use Rattle.script_told.specs.Run.{Entry, ScriptRun, IsRun, printed, IsResult}
use Rattle.script_told.specs.EachReport.{EachReportIsSettled}
use Rattle.script_told.specs.ScriptEvents.{EachRunsOn}
use Rattle.script_told.specs.EachPlan.{AllPlansComeOut}
use Rattle.script_bus.specs.EachConfig.{ConfigsComeOut}
use Rattle.script_bus.specs.EachWaiting.{WaitingNodesBecomeRoots}
use Rattle.script_advice.specs.Advice.{IsAdvice, EndsWithoutLoop}
use Rattle.world_laws.specs.WiringSlots.{ListsAreEmitted}
use Rattle.capture_reading.specs.Answer.{ValidOrRefused}
use Rattle.script_run.specs.Line.{script_line}

-- Behind each command of a script: wherever a component of its bus came to a tree, the list that each
-- node has is one that some cabling emits, which is that of the bus and shows that tree.
abbrev pub EachListIsEmitted : ScriptRun → Type 0
EachListIsEmitted run = All (λ (e : Entry). ListsAreEmitted (world_of e.after)) run.entries

-- The run of the script comes to its end, and the text is what its commands print, one after the
-- other. Each report in it is that of a world that comes of power-on and has settled, and from line to
-- line the bus runs by events. Each plan comes out, and each configuration packet that a settling
-- follows next, and each node becomes root that alone waits for it behind acts alone: the tree from
-- its root stands in the text. The lists of its trees are emitted by some cabling, so that they are
-- lists that `read` accepts.
pub record PrintsRun (bytes text : List ℕ) : Type 0 where
  pub run : ScriptRun
  pub is : IsRun bytes run
  pub bus : Bus
  pub ends : run.end ≡ Ok bus
  pub text_is : text ≡ printed run.entries
  pub settled : EachReportIsSettled run
  pub runs : EachRunsOn run
  pub plans : AllPlansComeOut run
  pub configs : ConfigsComeOut run
  pub waiting : WaitingNodesBecomeRoots run
  pub lists : EachListIsEmitted run

-- the text that a script tells is what its run prints
abbrev pub ToldTextsArePrinted : Type 0
ToldTextsArePrinted =
    (bytes text : List ℕ) → IsResult bytes (Ok text) → PrintsRun bytes text

-- `run`
abbrev pub AnswersRun : List ℕ → ℕ → List ℕ → Type 0
AnswersRun bytes = ValidOrRefused (PrintsRun bytes)
    (λ text. (f : ScriptFault) × IsResult bytes (Err f) × (text ≡ script_line f))

-- `advice`: the text of the script's advice, whose report has no loop
abbrev pub AnswersAdvice : List ℕ → ℕ → List ℕ → Type 0
AnswersAdvice bytes = ValidOrRefused (EndsWithoutLoop bytes)
    (λ text. (f : ScriptFault) × IsAdvice bytes (Err f) × (text ≡ script_line f))

-- `make N SEED`: the summary of what the script prints that is made of them, which has no fault
abbrev pub AnswersMake : ℕ → ℕ → ℕ → List ℕ → Type 0
AnswersMake nodes seed status text =
    (status ≡ 0)
    × ((whole : List ℕ) × PrintsRun (made_script nodes seed) whole × (text ≡ summary whole))

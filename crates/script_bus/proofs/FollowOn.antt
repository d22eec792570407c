-- The commands of a run are done one after the other.
use Rattle.std.proofs.Common.{◌≡◌, ℕ, suc, ◌+◌, List, [], ◌∷◌, ◌++◌, Option, Some, None, refl, sym, subst, arith}
use Rattle.std.specs.Prelude.{Result, Ok, Err, All}
use Rattle.std.proofs.lemmas.List.Elements.{All-cons}
use Rattle.script_lines.specs.declared.kind.Kind.{Kind}
use Rattle.script_lines.specs.declared.command.Command.{Command}
use Rattle.script_told.specs.Step.{LineAnswer}
use Rattle.script_told.specs.Script.{Stage, fresh, StageAnswer, script_lines}
use Rattle.script_told.specs.Run.{Entry, ScriptRun, stopped, last_run, Proceeds, TakesLine, RunsFrom, IsRun}
use Rattle.script_bus.specs.EachConfig.{EntriesFollowOn}

-- the commands lead on from a stage
abbrev pub LeadsOn : Stage → List Entry → Type 0
LeadsOn stage [] = Unit {0}
LeadsOn stage (entry ∷ entries) = (entry.before ≡ stage) × LeadsOn entry.after entries

abbrev LeadsOnFrom : (Stage → ScriptRun → Type 0) → Type 0
LeadsOnFrom Rest = (stage : Stage) (run : ScriptRun) → Rest stage run → LeadsOn stage run.entries

same-run : (stage : Stage) (one other : ScriptRun) → one ≡ other → LeadsOn stage other.entries →
    LeadsOn stage one.entries
same-run stage one other same h = subst (λ (r : ScriptRun). LeadsOn stage r.entries) (sym same) h

goes :
    (number : ℕ) (Rest : Stage → ScriptRun → Type 0) (stage : Stage) (command : Command) (r : StageAnswer) (run : ScriptRun) →
    LeadsOnFrom Rest → Proceeds number Rest stage command r run → LeadsOn stage run.entries
goes number Rest stage command (Ok (next, text)) run rest x =
    subst (λ (r : ScriptRun). LeadsOn stage r.entries) (sym x.2) (refl, rest next x.0 x.1)
goes number Rest stage command (Err kind) run rest x = same-run stage run (stopped number kind) x tt

takes :
    (number : ℕ) (Rest : Stage → ScriptRun → Type 0) (stage : Stage) (reading : Result (Option Command) Kind) (run : ScriptRun) →
    LeadsOnFrom Rest → TakesLine number Rest stage reading run → LeadsOn stage run.entries
takes number Rest stage (Ok None) run rest x = rest stage run x
takes number Rest stage (Ok (Some command)) run rest x = goes number Rest stage command x.0 run rest x.2
takes number Rest stage (Err kind) run rest x = same-run stage run (stopped number kind) x tt

ends : (number : ℕ) (stage : Stage) (r : LineAnswer) →
    LeadsOn stage (last_run number stage r).entries
ends number stage (Ok (bus, text)) = (refl, tt)
ends number stage (Err kind) = tt

from-each : (number : ℕ) (lines : List (List ℕ)) → LeadsOnFrom (RunsFrom number lines)
from-each number [] stage run x = same-run stage run (last_run number stage x.0) x.2 (ends number stage x.0)
from-each number (line ∷ lines) stage run x =
    takes number (RunsFrom (number + 1) lines) stage x.0 run (from-each (number + 1) lines) x.2

pub leads-on : (bytes : List ℕ) (run : ScriptRun) → IsRun bytes run → LeadsOn fresh run.entries
leads-on bytes run x = from-each 1 (script_lines bytes) fresh run x

-- and those behind one from where it led
pub leads-behind :
    (stage : Stage) (before rest : List Entry) (one : Entry) → LeadsOn stage (before ++ one ∷ rest) → LeadsOn one.after rest
leads-behind stage [] rest one h = h.1
leads-behind stage (entry ∷ before) rest one h = leads-behind entry.after before rest one h.1

pub follow-on : EntriesFollowOn
follow-on bytes run before rest one two x same =
    (leads-behind fresh before (two ∷ rest) one (subst (LeadsOn fresh) same (leads-on bytes run x))).0

-- what holds of all holds of the one behind these
pub at-split : (P : Entry → Type 0) (before rest : List Entry) (one : Entry) →
    All P (before ++ one ∷ rest) → P one
at-split P [] rest one all = all 0 one (omega arith)
at-split P (entry ∷ before) rest one all =
    at-split P before rest one (λ i d inside. all (suc i) d (omega (arith, inside)))

-- and of all behind that one
pub behind-split : (P : Entry → Type 0) (before rest : List Entry) (one : Entry) →
    All P (before ++ one ∷ rest) → All P rest
behind-split P [] rest one all = λ i d inside. all (suc i) d (omega (arith, inside))
behind-split P (entry ∷ before) rest one all =
    behind-split P before rest one (λ i d inside. all (suc i) d (omega (arith, inside)))

-- and of those in front
pub front-split : (P : Entry → Type 0) (front rest : List Entry) → All P (front ++ rest) →
    All P front
front-split P [] rest all = λ i d inside. absurd (omega (arith, inside))
front-split P (entry ∷ front) rest all =
    All-cons P entry front (all 0 entry (omega arith)) (front-split P front rest (λ i d inside. all (suc i) d (omega (arith, inside))))

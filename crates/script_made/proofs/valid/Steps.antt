-- What holds behind commands of which none is at fault.
use Rattle.std.proofs.Common.{◌≡◌, ◌∙◌, ℕ, zero, suc, ◌+◌, ◌<◌, List, [], ◌∷◌, ◌++◌, Option, Some, sym, subst, ap, arith}
use Rattle.std.specs.Prelude.{Result, Ok, Err}
use Rattle.std.specs.List.{AllZip}
use Rattle.port_state.specs.declared.ranges.TimeRanges.{TimeRanges}
use Rattle.port_state.specs.TimeRanges.{profile_ranges}
use Rattle.script_lines.specs.declared.kind.Kind.{Kind}
use Rattle.script_lines.specs.declared.command.Command.{Command}
use Rattle.script_lines.specs.Line.{ReadsLine}
use Rattle.script_told.specs.Bus.{Bus}
use Rattle.script_told.specs.Step.{LineAnswer, Does, DoesSettle}
use Rattle.script_told.specs.Script.{Stage, running, StageAnswer, bus_of, ranges_of, onwards, DoesOnBus, DoesAtStage}
use Rattle.script_told.specs.Run.{ScriptRun, done, behind, last_run, Proceeds, TakesLine, RunsFrom}
use Rattle.script_made.specs.Made.{for_each}
use Rattle.script_lines.proofs.Lemmas.{one_reading}

-- ---- a command

-- no fault, and a bus of which this holds
abbrev pub GoesOn : (Bus → Type 0) → LineAnswer → Type 0
GoesOn P (Ok (bus, text)) = P bus
GoesOn P (Err kind) = ⊥

-- no fault, and a stage of which this holds
abbrev pub Leads : (Stage → Type 0) → StageAnswer → Type 0
Leads P (Ok (stage, text)) = P stage
Leads P (Err kind) = ⊥

leads-wider :
    (P Q : Stage → Type 0) → ((stage : Stage) → P stage → Q stage) → (r : StageAnswer) →
    Leads P r → Leads Q r
leads-wider P Q f (Ok (stage, text)) h = f stage h
leads-wider P Q f (Err kind) h = h

-- from a bus on the bus runs
pub runs-lead :
    (P : Stage → Type 0) (stage : Stage) (command : Command) →
    ((r : LineAnswer) → Does (bus_of stage) command r → GoesOn (λ bus. P (running bus)) r) →
    (answer : StageAnswer) → DoesOnBus stage command answer → Leads P answer
runs-lead P stage command f answer x = subst (Leads P) (sym x.2) (go x.0 (f x.0 x.1))
  where
    go : (r : LineAnswer) → GoesOn (λ bus. P (running bus)) r → Leads P (onwards r)
    go (Ok (bus, text)) h = h
    go (Err kind) h = h

-- ---- commands, one after the other

-- whatever they come to, none is at fault, and this holds behind them
abbrev pub After : List Command → (Stage → Type 0) → Stage → Type 0
After [] P stage = P stage
After (command ∷ commands) P stage =
    (r : StageAnswer) → DoesAtStage stage command r → Leads (After commands P) r

pub wider :
    (commands : List Command) (P Q : Stage → Type 0) → ((stage : Stage) → P stage → Q stage) →
    (stage : Stage) → After commands P stage → After commands Q stage
wider [] P Q f stage h = f stage h
wider (command ∷ commands) P Q f stage h =
    λ r x. leads-wider (After commands P) (After commands Q) (wider commands P Q f) r (h r x)

pub then :
    (first rest : List Command) (P : Stage → Type 0) (stage : Stage) →
    After first (After rest P) stage → After (first ++ rest) P stage
then [] rest P stage h = h
then (command ∷ first) rest P stage h =
    λ r x. leads-wider (After first (After rest P)) (After (first ++ rest) P)
    (then first rest P) r (h r x)

-- the same for some that are followed by others
pub and-then :
    (first rest : List Command) (P Q : Stage → Type 0) →
    ((stage : Stage) → P stage → After rest Q stage) → (stage : Stage) → After first P stage →
    After (first ++ rest) Q stage
and-then first rest P Q f stage h =
    then first rest Q stage (wider first P (After rest Q) f stage h)

-- the commands for each number keep what holds with the number
pub each :
    (n : ℕ) (commands : ℕ → List Command) (P : ℕ → Stage → Type 0) →
    ((k : ℕ) → k < n → (stage : Stage) → P k stage → After (commands k) (P (suc k)) stage) →
    (stage : Stage) → P 0 stage → After (for_each n commands) (P n) stage
each zero commands P step stage h = h
each (suc n) commands P step stage h =
    and-then (for_each n commands) (commands n) (P n) (P (suc n)) (step n (omega arith)) stage
    (each n commands P (λ k less. step k (omega (arith, less))) stage h)

-- ---- the lines that say them

-- at the end of the script the bus settles
abbrev pub SettlesAtEnd : Stage → Type 0
SettlesAtEnd stage = (r : LineAnswer) → DoesSettle (bus_of stage) r → GoesOn (λ bus. Unit {0}) r

-- a run comes to its end
abbrev pub ComesThrough : ScriptRun → Type 0
ComesThrough run = (bus : Bus) × (run.end ≡ Ok bus)

-- each line is read as its command
abbrev pub Say : List (List ℕ) → List Command → Type 0
Say lines commands =
    (times : TimeRanges) → AllZip (λ line command. ReadsLine times line (Ok (Some command))) lines commands

ended :
    (number : ℕ) (stage : Stage) (r : LineAnswer) (run : ScriptRun) → GoesOn (λ bus. Unit {0}) r →
    run ≡ last_run number stage r → ComesThrough run
ended number stage (Ok (bus, text)) run h e = (bus, ap (λ (r : ScriptRun). r.end) e)
ended number stage (Err kind) run h e = absurd h

-- a command is done, and what stands behind it is
gone :
    (number : ℕ) (Rest : Stage → ScriptRun → Type 0) (P : Stage → Type 0) (stage : Stage)
    (command : Command) →
    ((next : Stage) (more : ScriptRun) → P next → Rest next more → ComesThrough more) →
    (r : StageAnswer) (run : ScriptRun) → Leads P r → Proceeds number Rest stage command r run →
    ComesThrough run
gone number Rest P stage command f (Ok (next, text)) run h x =
    let rest : ComesThrough x.0 = f next x.0 h x.1 in
    (rest.0, ap (λ (r : ScriptRun). r.end) x.2 ∙ rest.1)
gone number Rest P stage command f (Err kind) run h x = absurd h

pub comes-through :
    (lines : List (List ℕ)) (commands : List Command) → Say lines commands → (number : ℕ)
    (stage : Stage) (run : ScriptRun) → After commands SettlesAtEnd stage →
    RunsFrom number lines stage run → ComesThrough run
comes-through [] [] say number stage run h x = ended number stage x.0 run (h x.0 x.1) x.2
comes-through [] (command ∷ commands) say number stage run h x = absurd (say (profile_ranges 4))
comes-through (line ∷ lines) [] say number stage run h x = absurd (say (profile_ranges 4))
comes-through (line ∷ lines) (command ∷ commands) say number stage run h x =
    let Rest : Stage → ScriptRun → Type 0 = RunsFrom (number + 1) lines in
    let times : TimeRanges = ranges_of stage in
    let same : x.0 ≡ Ok (Some command) =
    one_reading times line x.0 (Ok (Some command)) x.1 (say times).0 in
    let taken : TakesLine number Rest stage (Ok (Some command)) run =
    subst (λ (reading : Result (Option Command) Kind). TakesLine number Rest stage reading run)
    same x.2 in
    gone number Rest (After commands SettlesAtEnd) stage command
    (λ next more after rest. comes-through lines commands (λ times. (say times).1) (number + 1) next more after rest)
    taken.0 run (h taken.0 taken.1) taken.2

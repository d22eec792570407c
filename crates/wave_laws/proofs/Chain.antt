-- How the commands of a run follow one another: each finds what the one before it left.
use Rattle.std.proofs.Common.{◌≡◌, ℕ, ◌+◌, Bool, true, false, List, [], ◌∷◌, Option, Some, None, cond, refl, sym, subst, ap}
use Rattle.std.specs.Prelude.{Result, Ok, Err, nat_lt, length}
use Rattle.self_id.specs.declared.standard.Standard.{Standard}
use Rattle.port_state.specs.Machine.{PortNode}
use Rattle.port_state.specs.Clock.{is_even}
use Rattle.port_state.specs.Clock.{Clock as NodeClock}
use Rattle.port_state.specs.declared.ranges.TimeRanges.{TimeRanges}
use Rattle.cable_world.specs.World.{NodeNumber}
use Rattle.script_lines.specs.declared.kind.Kind.{Kind}
use Rattle.script_lines.specs.declared.kind.ScriptFault.{ScriptFault}
use Rattle.script_lines.specs.declared.clock.TooSlow.{TooSlow}
use Rattle.script_lines.specs.declared.times.ScriptTimes.{ScriptTimes}
use Rattle.script_lines.specs.declared.command.Command.{Command}
use Rattle.script_lines.specs.declared.command.Command.TheVariants.{Node, Delay, Times, Clock}
use Rattle.script_lines.specs.Clock.{gap_of, clock_said, slow_ranges}
use Rattle.script_lines.specs.Times.{standard_times}
use Rattle.script_told.specs.Bus.{Bus, is_declared, node_named}
use Rattle.script_told.specs.Step.{LineAnswer}
use Rattle.script_told.specs.Script.{Declares as DeclaresNode, Draft, Delays, SaysTimes, Slows, with_node, draft_with, takes_times, Stage, fresh, declaring, running, StageAnswer, draft_of, with_times, with_clock, slows_node, slows_named, DoesAtStage, script_lines, fault_at}
use Rattle.script_told.specs.Run.{Entry, ScriptRun, stopped, last_run, Proceeds, TakesLine, RunsFrom, IsRun}
use Rattle.script_told.specs.ScriptEvents.{Declares}
use Rattle.script_told.proofs.Lemmas.{same-end, not-both, stage-in}

-- ---- the chain of a run

-- the first of these commands finds this stage, each other one what was left before it, and the last
-- leaves the bus at the end
abbrev pub Follow : Stage → List Entry → Result Bus ScriptFault → Type 0
Follow stage [] end = (bus : Bus) → end ≡ Ok bus → stage ≡ running bus
Follow stage (e ∷ entries) end = (e.before ≡ stage) × Follow e.after entries end

abbrev Chained : Stage → ScriptRun → Type 0
Chained stage run = Follow stage run.entries run.end

none-follow : (number : ℕ) (kind : Kind) (stage : Stage) → Chained stage (stopped number kind)
none-follow number kind stage = λ bus e. absurd (not-both bus (fault_at number kind) (sym e))

last-follows : (number : ℕ) (stage : Stage) (r : LineAnswer) → Chained stage (last_run number stage r)
last-follows number stage (Ok (bus, text)) = (refl, λ other e. ap running (same-end bus other e))
last-follows number stage (Err kind) = none-follow number kind stage

goes-on : (number : ℕ) (Rest : Stage → ScriptRun → Type 0) (stage : Stage) (command : Command) (r : StageAnswer) (run : ScriptRun) →
    ((next : Stage) (more : ScriptRun) → Rest next more → Chained next more) → Proceeds number Rest stage command r run → Chained stage run
goes-on number Rest stage command (Ok (next, text)) run rest x =
    subst (Chained stage) (sym x.2) (refl, rest next x.0 x.1)
goes-on number Rest stage command (Err kind) run rest x = subst (Chained stage) (sym x) (none-follow number kind stage)

line-follows : (number : ℕ) (Rest : Stage → ScriptRun → Type 0) (stage : Stage) (reading : Result (Option Command) Kind) (run : ScriptRun) →
    ((next : Stage) (more : ScriptRun) → Rest next more → Chained next more) → TakesLine number Rest stage reading run → Chained stage run
line-follows number Rest stage (Ok None) run rest x = rest stage run x
line-follows number Rest stage (Ok (Some command)) run rest x = goes-on number Rest stage command x.0 run rest x.2
line-follows number Rest stage (Err kind) run rest x = subst (Chained stage) (sym x) (none-follow number kind stage)

all-follow : (number : ℕ) (lines : List (List ℕ)) (stage : Stage) (run : ScriptRun) → RunsFrom number lines stage run → Chained stage run
all-follow number [] stage run x = subst (Chained stage) (sym x.2) (last-follows number stage x.0)
all-follow number (line ∷ lines) stage run x =
    line-follows number (RunsFrom (number + 1) lines) stage x.0 run (all-follow (number + 1) lines) x.2

pub run-follows : (bytes : List ℕ) (run : ScriptRun) → IsRun bytes run → Follow fresh run.entries run.end
run-follows bytes run x = all-follow 1 (script_lines bytes) fresh run x

-- ---- a declaration leaves no bus that runs

-- an answer that a running bus is none of
abbrev IsNoBus : StageAnswer → Type 0
IsNoBus answer = (after : Bus) (text : List ℕ) → ◌≡◌ {A = StageAnswer} (Ok (running after, text)) answer → ⊥

no-fault : (kind : Kind) → IsNoBus (Err kind)
no-fault kind after text e = absurd cc

no-draft : (draft : Draft) (more : List ℕ) → IsNoBus (Ok (declaring draft, more))
no-draft draft more after text e = not-draft (ap stage-in e)
  where
    not-draft : running after ≡ declaring draft → ⊥
    not-draft f = absurd cc

no-bus-if : (b : Bool) (one other : StageAnswer) → IsNoBus one → IsNoBus other → IsNoBus (cond b one other)
no-bus-if true one other x y = x
no-bus-if false one other x y = y

no-times : (draft : Draft) (times : Result ScriptTimes Kind) → IsNoBus (with_times draft times)
no-times draft (Ok times) = no-draft (record draft { times = times }) []
no-times draft (Err kind) = no-fault kind

no-clock : (draft : Draft) (number : ℕ) (x : PortNode) (clock : NodeClock) (ranges : Result TimeRanges TooSlow) → IsNoBus (with_clock draft number x clock ranges)
no-clock draft number x clock (Ok ranges) = no-draft _ []
no-clock draft number x clock (Err reason) = no-fault Kind.Range

no-slow : (draft : Draft) (ppm : ℕ) (first : Option ℕ) (number : ℕ) (o : Option PortNode) → IsNoBus (slows_node draft ppm first number o)
no-slow draft ppm first number None = no-fault Kind.NoNode
no-slow draft ppm first number (Some x) =
    no-bus-if (is_even x.clock) _ _
    (no-clock draft number x (clock_said ppm first) (slow_ranges draft.delay draft.times.ranges x.state.timing (gap_of ppm)))
    (no-fault Kind.Twice)

no-named : (draft : Draft) (ppm : ℕ) (first : Option ℕ) (o : Option NodeNumber) → IsNoBus (slows_named draft ppm first o)
no-named draft ppm first None = no-fault Kind.NoNode
no-named draft ppm first (Some number) = no-slow draft ppm first number _

-- a node is declared, or this is refused
no-node : (stage : Stage) (name : List ℕ) (node : TimeRanges → ℕ → PortNode) (answer : StageAnswer) → DeclaresNode (draft_of stage) name node answer →
    IsNoBus answer
no-node stage name node answer x = go (draft_of stage) x
  where
    go : (o : Option Draft) → DeclaresNode o name node answer → IsNoBus answer
    go None e = subst IsNoBus (sym e) (no-fault Kind.Late)
    go (Some draft) e =
        subst IsNoBus (sym e)
        (no-bus-if draft.slowed _ _ (no-fault Kind.Late)
        (no-bus-if (nat_lt 62 (length draft.names)) _ _ (no-fault Kind.TooManyNodes)
        (no-bus-if (is_declared draft.names name) _ _ (no-fault Kind.Twice)
        (no-draft (with_node draft name (node draft.times.ranges (length draft.names))) []))))

no-delay : (stage : Stage) (delay : ℕ) (answer : StageAnswer) → Delays stage delay answer → IsNoBus answer
no-delay fresh delay answer e = subst IsNoBus (sym e) (no-draft (draft_with delay) [])
no-delay (declaring draft) delay answer e = subst IsNoBus (sym e) (no-fault Kind.Late)
no-delay (running bus) delay answer e = subst IsNoBus (sym e) (no-fault Kind.Late)

no-standard : (stage : Stage) (standard : Standard) (nanoseconds : ℕ) (answer : StageAnswer) → SaysTimes (draft_of stage) standard nanoseconds answer →
    IsNoBus answer
no-standard stage standard nanoseconds answer x = go (draft_of stage) x
  where
    go : (o : Option Draft) → SaysTimes o standard nanoseconds answer → IsNoBus answer
    go None e = subst IsNoBus (sym e) (no-fault Kind.Late)
    go (Some draft) e =
        subst IsNoBus (sym e)
        (no-bus-if (takes_times draft) _ _ (no-times draft (standard_times standard draft.delay nanoseconds)) (no-fault Kind.Late))

no-slowed : (stage : Stage) (name : List ℕ) (ppm : ℕ) (first : Option ℕ) (answer : StageAnswer) → Slows (draft_of stage) name ppm first answer →
    IsNoBus answer
no-slowed stage name ppm first answer x = go (draft_of stage) x
  where
    go : (o : Option Draft) → Slows o name ppm first answer → IsNoBus answer
    go None e = subst IsNoBus (sym e) (no-fault Kind.Late)
    go (Some draft) e = subst IsNoBus (sym e) (no-named draft ppm first (node_named draft.names name))

declared-alone : (stage : Stage) (c : Command) (answer : StageAnswer) → Declares c → DoesAtStage stage c answer → IsNoBus answer
declared-alone stage (Node name ports speed link contender force power gap gap_reset hold short long word len seed packed) answer d x =
    no-node stage name _ answer x
declared-alone stage (Delay delay) answer d x = no-delay stage delay answer x
declared-alone stage (Times standard nanoseconds) answer d x = no-standard stage standard nanoseconds answer x
declared-alone stage (Clock name ppm first) answer d x = no-slowed stage name ppm first answer x
declared-alone stage c answer d x = absurd d

left : Stage → List ℕ → StageAnswer
left stage text = Ok (stage, text)

-- so a command that leaves a bus that runs declares nothing
pub declares-nothing : (e : Entry) (after : Bus) → DoesAtStage e.before e.command (Ok (e.after, e.text)) → e.after ≡ running after →
    Declares e.command → ⊥
unfolding left
declares-nothing e after x is d =
    declared-alone e.before e.command (Ok (e.after, e.text)) d x after e.text
    (ap (λ (s : Stage). left s e.text) (sym is))

-- Each script has a run.
use Rattle.std.proofs.Common.{◌≡◌, ◌≤◌, ℕ, ◌+◌, Bool, true, false, List, [], ◌∷◌, Option, Some, None, length, refl, arith}
use Rattle.std.specs.Prelude.{Result, Ok, Err, nat_lt, if◌then◌else◌}
use Rattle.self_id.specs.declared.standard.Standard.{Standard}
use Rattle.port_state.specs.declared.ranges.TimeRanges.{TimeRanges}
use Rattle.port_state.specs.Clock.{is_even}
use Rattle.port_state.specs.Machine.{PortNode}
use Rattle.cable_world.specs.Unchanged.{ActKeepsNodes}
use Rattle.script_lines.specs.declared.kind.Kind.{Kind}
use Rattle.script_lines.specs.declared.command.Command.{Command}
use Rattle.script_lines.specs.declared.command.Command.TheVariants.{Node, Delay, Times, Clock, Plan}
use Rattle.script_lines.specs.Times.{standard_times}
use Rattle.script_lines.specs.Range.{IsBetween, IsInRange, IsNodeInRange}
use Rattle.script_lines.specs.Line.{ReadsLine}
use Rattle.script_lines.specs.Ranged.{CommandsAreInRange}
use Rattle.script_lines.proofs.Lemmas.{some_reading}
use Rattle.script_told.specs.Bus.{Bus, is_declared, node_named}
use Rattle.script_told.specs.Step.{Does}
use Rattle.script_told.specs.Script.{Draft, Stage, fresh, declaring, running, StageAnswer, bus_of, ranges_of, first_draft, draft_with, takes_times, with_times, new_node, times_of, coins_of, with_node, slows_named, Declares, Delays, SaysTimes, Slows, onwards, DoesOnBus, DoesAtStage, script_lines}
use Rattle.script_told.specs.Run.{ScriptRun, done, stopped, behind, last_run, Proceeds, TakesLine, RunsFrom}
use Rattle.script_told.specs.SomeAnswer.{IsReachedBus, HasAnswer, CommandsHaveAnswers, PlansHaveAnswers, BusesSettle}
use Rattle.script_told.specs.Fitting.{IsFitting}
use Rattle.script_told.proofs.Lemmas.{says, slows-sound, IsSoundDraft, IsSound, LeavesSound, sound-bus, no-nodes, drafted, leaves, onwards-sound, attrs_said, node-at-power-on}
use Rattle.script_bus.specs.SomeRun.{EachScriptHasARun}

record Step (Comes : StageAnswer → Type 0) : Type 0 where
  answer : StageAnswer
  is : Comes answer
  sound : LeavesSound answer

declare :
    (draft : Draft) (name : List ℕ) (node : TimeRanges → ℕ → PortNode) → IsSoundDraft draft →
    IsFitting draft.delay draft.times.ranges (node draft.times.ranges (length draft.names)) →
    is_even (node draft.times.ranges (length draft.names)).clock ≡ true → Step (Declares (Some draft) name node)
declare draft name node h on even = go draft.slowed (nat_lt 62 (length draft.names)) (is_declared draft.names name) refl
  where
    new : PortNode
    new = node draft.times.ranges (length draft.names)

    go : (slowed full twice : Bool) → nat_lt 62 (length draft.names) ≡ full →
        Step (λ r. r ≡ (if slowed then Err Kind.Late
        else if full then Err Kind.TooManyNodes
        else if twice then Err Kind.Twice else Ok (declaring (with_node draft name new), [])))
    go true full twice e = record { answer = Err Kind.Late; is = refl; sound = tt }
    go false true twice e = record { answer = Err Kind.TooManyNodes; is = refl; sound = tt }
    go false false true e = record { answer = Err Kind.Twice; is = refl; sound = tt }
    go false false false e = record { answer = Ok (declaring (with_node draft name new), []); is = refl; sound = drafted draft name new e even h on }

declare-node :
    (draft : Draft) → IsSoundDraft draft → (name : List ℕ) (ports speed : ℕ) (link contender force : Bool) (power gap : ℕ) (gap_reset : Bool)
    (held short long : Option ℕ) (word len : ℕ) (seed : Option ℕ) → IsNodeInRange draft.times.ranges ports speed power gap held short long len →
    Step (Declares (Some draft) name (λ ranges number.
    new_node (attrs_said speed link contender power gap) ports force gap_reset (times_of ranges held short long) (coins_of number word len seed)))
declare-node draft h name ports speed link contender force power gap gap_reset held short long word len seed i =
    declare draft name (λ ranges number. new_node (attrs_said speed link contender power gap) ports force gap_reset (times_of ranges held short long) (coins_of number word len seed)) h
    (node-at-power-on draft ports speed link contender force power gap gap_reset held short long word len seed h.fitting i) refl

delays : (stage : Stage) (delay : ℕ) → IsBetween 1 16 delay → Step (Delays stage delay)
delays fresh delay i = record { answer = Ok (declaring (draft_with delay), []); is = refl; sound = no-nodes delay i.0 i.1 }
delays (declaring draft) delay i = record { answer = Err Kind.Late; is = refl; sound = tt }
delays (running bus) delay i = record { answer = Err Kind.Late; is = refl; sound = tt }

-- what a line comes to that says a standard's times
said : (draft : Draft) → Standard → ℕ → StageAnswer
said draft standard nanoseconds =
    if takes_times draft then with_times draft (standard_times standard draft.delay nanoseconds) else Err Kind.Late

say : (draft : Draft) (standard : Standard) (nanoseconds : ℕ) → 1 ≤ nanoseconds → IsSoundDraft draft →
    Step (SaysTimes (Some draft) standard nanoseconds)
unfolding said
say draft standard nanoseconds some h = record {
  answer = said draft standard nanoseconds;
  is = refl;
  sound = (says draft standard nanoseconds some h (said draft standard nanoseconds) (said draft standard nanoseconds) refl refl).1;
}

slow : (draft : Draft) (name : List ℕ) (ppm : ℕ) (first : Option ℕ) → IsSoundDraft draft →
    Step (Slows (Some draft) name ppm first)
slow draft name ppm first h = record {
  answer = slows_named draft ppm first (node_named draft.names name);
  is = refl;
  sound = slows-sound draft ppm first (node_named draft.names name) h;
}

module _ (keeps : ActKeepsNodes) (commands : CommandsHaveAnswers) (plans : PlansHaveAnswers) (settle : BusesSettle) (ranged : CommandsAreInRange) where
  any-answer : (bus : Bus) (command : Command) → IsReachedBus bus → HasAnswer (Does bus command)
  any-answer bus (Plan name) h = plans bus name h
  any-answer bus command h = commands bus command h tt

  runs : (stage : Stage) (command : Command) → IsSound stage → IsInRange (ranges_of stage) command →
      Step (DoesOnBus stage command)
  runs stage command h i =
      let a = any-answer (bus_of stage) command (sound-bus stage h) in
      record {
        answer = onwards a.answer;
        is = (a.answer, a.is, refl);
        sound = onwards-sound a.answer (leaves keeps (ranges_of stage) (bus_of stage) command (sound-bus stage h) i a.answer a.is);
      }

  follow : (stage : Stage) (command : Command) → IsSound stage →
      IsInRange (ranges_of stage) command → Step (DoesAtStage stage command)
  follow fresh (Node name ports speed link contender force power gap gap_reset held short long word len seed packed) h i =
      declare-node first_draft (no-nodes 4 (omega arith) (omega arith)) name ports speed link contender force power gap gap_reset held short long word len seed i
  follow (declaring draft) (Node name ports speed link contender force power gap gap_reset held short long word len seed packed) h i =
      declare-node draft h name ports speed link contender force power gap gap_reset held short long word len seed i
  follow (running bus) (Node name ports speed link contender force power gap gap_reset held short long word len seed packed) h i =
      record { answer = Err Kind.Late; is = refl; sound = tt }
  follow stage (Delay delay) h i = delays stage delay i
  follow fresh (Times standard nanoseconds) h i = say first_draft standard nanoseconds i.0 (no-nodes 4 (omega arith) (omega arith))
  follow (declaring draft) (Times standard nanoseconds) h i = say draft standard nanoseconds i.0 h
  follow (running bus) (Times standard nanoseconds) h i = record { answer = Err Kind.Late; is = refl; sound = tt }
  follow fresh (Clock name ppm first) h i = slow first_draft name ppm first (no-nodes 4 (omega arith) (omega arith))
  follow (declaring draft) (Clock name ppm first) h i = slow draft name ppm first h
  follow (running bus) (Clock name ppm first) h i = record { answer = Err Kind.Late; is = refl; sound = tt }
  follow stage command h i = runs stage command h i

  -- ---- lines

  abbrev HasFrom : (Stage → ScriptRun → Type 0) → Type 0
  HasFrom Rest = (stage : Stage) → IsSound stage → (run : ScriptRun) × Rest stage run

  goes :
      (number : ℕ) (Rest : Stage → ScriptRun → Type 0) (stage : Stage) (command : Command) → HasFrom Rest →
      (r : StageAnswer) → LeavesSound r → (run : ScriptRun) ×
      Proceeds number Rest stage command r run
  goes number Rest stage command rest (Ok (next, text)) h =
      let more = rest next h in (behind (done number stage command next text ∷ []) more.0, (more.0, more.1, refl))
  goes number Rest stage command rest (Err kind) h = (stopped number kind, refl)

  takes :
      (number : ℕ) (Rest : Stage → ScriptRun → Type 0) → HasFrom Rest → (stage : Stage) (line : List ℕ)
      (reading : Result (Option Command) Kind) → IsSound stage → ReadsLine (ranges_of stage) line reading →
      (run : ScriptRun) × TakesLine number Rest stage reading run
  takes number Rest rest stage line (Ok None) h reads = rest stage h
  takes number Rest rest stage line (Ok (Some command)) h reads =
      let s = follow stage command h (ranged (ranges_of stage) line command reads) in
      let g = goes number Rest stage command rest s.answer s.sound in
      (g.0, (s.answer, s.is, g.1))
  takes number Rest rest stage line (Err kind) h reads = (stopped number kind, refl)

  from-each : (lines : List (List ℕ)) (number : ℕ) (stage : Stage) → IsSound stage →
      (run : ScriptRun) × RunsFrom number lines stage run
  from-each [] number stage h =
      let a = settle (bus_of stage) (sound-bus stage h) in
      (last_run number stage a.answer, (a.answer, a.is, refl))
  from-each (line ∷ lines) number stage h =
      let r = some_reading (ranges_of stage) line in
      let t = takes number (RunsFrom (number + 1) lines) (λ next k. from-each lines (number + 1) next k) stage line r.0 h r.1 in
      (t.0, (r.0, r.1, t.1))

  pub some-run : EachScriptHasARun
  some-run bytes =
      let t = from-each (script_lines bytes) 1 fresh tt in
      record { run = t.0; is = t.1 }

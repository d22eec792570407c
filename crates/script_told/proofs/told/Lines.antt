-- What follows at a stage, and that a script has one run.
use Rattle.std.proofs.Common.{◌≡◌, ℕ, ◌+◌, ◌≤◌, ◌==◌, ◌&&◌, not, Bool, true, false, List, [], ◌∷◌, Option, Some, None, length, refl, sym, ◌∙◌, ap, subst, arith}
use Rattle.std.specs.Prelude.{nat_lt, is_some, slice_get, Result, Ok, Err, if◌then◌else◌}
use Rattle.std.proofs.lemmas.Bool.Decides.{nat_tests}
use Rattle.topology_stack.specs.OneAnswer.{NoListHasTwoTrees}
use Rattle.port_state.specs.Clock.{is_even}
use Rattle.port_state.specs.Machine.{PortNode}
use Rattle.port_state.specs.declared.ranges.TimeRanges.{TimeRanges}
use Rattle.self_id.specs.declared.standard.Standard.{Standard}
use Rattle.cable_world.specs.Unchanged.{ActKeepsNodes}
use Rattle.cable_world.proofs.Lemmas.{reached-lawful}
use Rattle.script_lines.specs.declared.kind.Kind.{Kind}
use Rattle.script_lines.specs.declared.command.Command.{Command}
use Rattle.script_lines.specs.declared.command.Command.TheVariants.{Node, Delay, Times, Clock}
use Rattle.script_lines.specs.Range.{IsBetween, IsInRange}
use Rattle.script_lines.specs.declared.times.ScriptTimes.{ScriptTimes}
use Rattle.script_lines.specs.Times.{standard_times}
use Rattle.script_lines.specs.Line.{ReadsLine}
use Rattle.script_lines.proofs.Lemmas.{one_reading, in-range}
use Rattle.script_told.specs.Bus.{is_declared, node_named}
use Rattle.script_told.specs.Script.{Draft, Stage, fresh, declaring, running, StageAnswer, bus_of, ranges_of, first_draft, draft_with, new_node, times_of, coins_of, with_node, with_times, slows_named, Declares, Delays, SaysTimes, Slows, onwards, DoesOnBus, DoesAtStage, script_lines}
use Rattle.script_told.specs.Run.{ScriptRun, done, behind, last_run, Proceeds, TakesLine, RunsFrom, result_of}
use Rattle.script_told.specs.OneTold.{ScriptsHaveOneRun, ScriptsTellOneThing}
use Rattle.script_told.specs.Fitting.{AreFitting, IsFitting}
use Rattle.script_told.proofs.told.Cables.{IsCabled}
use Rattle.script_told.proofs.told.Commands.{does, settles}
use Rattle.script_told.proofs.told.Fitting.{standard-fits}
use Rattle.script_told.proofs.told.Reached.{no-slack, IsSoundDraft, IsSound, LeavesSound, sound-bus, stage-reached, no-nodes, drafted, leaves, onwards-sound, attrs_said, node-at-power-on}
use Rattle.script_told.proofs.told.Slowed.{slows-sound}

-- the cables at a stage are a cabling
pub cabled : (stage : Stage) → IsSound stage → IsCabled (bus_of stage).world
cabled stage h = (reached-lawful (bus_of stage).world (stage-reached stage h)).well_formed.cabling

-- ---- a command

abbrev pub IsOneStage : (StageAnswer → Type 0) → Type 0
IsOneStage Comes = (a b : StageAnswer) → Comes a → Comes b → (a ≡ b) × LeavesSound a

known : (r a b : StageAnswer) → LeavesSound r → a ≡ r → b ≡ r → (a ≡ b) × LeavesSound a
known r a b h x y = (x ∙ sym y, subst LeavesSound (sym x) h)

declares :
    (draft : Draft) (name : List ℕ) (node : TimeRanges → ℕ → PortNode) → IsSoundDraft draft →
    IsFitting draft.delay draft.times.ranges (node draft.times.ranges (length draft.names)) →
    is_even (node draft.times.ranges (length draft.names)).clock ≡ true → IsOneStage (Declares (Some draft) name node)
declares draft name node h on even =
    go draft.slowed (nat_lt 62 (length draft.names)) (is_declared draft.names name) refl
  where
    new : PortNode
    new = node draft.times.ranges (length draft.names)

    go : (slowed full twice : Bool) → nat_lt 62 (length draft.names) ≡ full →
        IsOneStage (λ r. r ≡ (if slowed then Err Kind.Late
        else if full then Err Kind.TooManyNodes
        else if twice then Err Kind.Twice else Ok (declaring (with_node draft name new), [])))
    go true full twice e a b x y = known (Err Kind.Late) a b tt x y
    go false true twice e a b x y = known (Err Kind.TooManyNodes) a b tt x y
    go false false true e a b x y = known (Err Kind.Twice) a b tt x y
    go false false false e a b x y =
        known (Ok (declaring (with_node draft name new), [])) a b (drafted draft name new e even h on) x y

delays : (stage : Stage) (delay : ℕ) → IsBetween 1 16 delay → IsOneStage (Delays stage delay)
delays fresh delay i a b x y =
    known (Ok (declaring (draft_with delay), [])) a b (no-nodes delay i.0 i.1) x y
delays (declaring draft) delay i a b x y = known (Err Kind.Late) a b tt x y
delays (running bus) delay i a b x y = known (Err Kind.Late) a b tt x y

-- a standard's times, where the line that says them isn't refused
timed-draft :
    (draft : Draft) (times : ScriptTimes) → length draft.names ≡ 0 → AreFitting draft.delay times.ranges →
    IsSoundDraft draft → IsSoundDraft (record draft { times = times })
timed-draft draft times none fit h = record {
  some_delay = h.some_delay;
  short_delay = h.short_delay;
  few = h.few;
  same = h.same;
  fitting = fit;
  forced = record { enough = omega (arith, fit.suitable.force, h.slack, no-slack draft.nodes (sym h.same ∙ none)) };
  slack = h.slack;
  powered = λ k x at. absurd (no-node draft.nodes (sym h.same ∙ none) k x at);
}
  where
    no-node : (nodes : List PortNode) → length nodes ≡ 0 → (k : ℕ) (x : PortNode) → slice_get nodes k ≡ Some x → ⊥
    no-node [] e k x at = cc
    no-node (y ∷ nodes) e k x at = absurd (omega (arith, e))

pub says :
    (draft : Draft) (standard : Standard) (nanoseconds : ℕ) → 1 ≤ nanoseconds → IsSoundDraft draft →
    IsOneStage (SaysTimes (Some draft) standard nanoseconds)
says draft standard nanoseconds some h =
    go (length draft.names == 0) (not (is_some draft.times.nanoseconds))
    (standard_times standard draft.delay nanoseconds) refl refl
  where
    go : (none new : Bool) (r : Result ScriptTimes Kind) → (length draft.names == 0) ≡ none →
        standard_times standard draft.delay nanoseconds ≡ r →
        IsOneStage (λ a. a ≡ (if none && new then with_times draft r else Err Kind.Late))
    go true true (Ok times) e f a b x y =
        known (Ok (declaring (record draft { times = times }), [])) a b
        (timed-draft draft times (grind (arith, nat_tests, e)) (standard-fits standard draft.delay nanoseconds times some f) h) x y
    go true true (Err kind) e f a b x y = known (Err kind) a b tt x y
    go true false r e f a b x y = known (Err Kind.Late) a b tt x y
    go false new r e f a b x y = known (Err Kind.Late) a b tt x y

-- a clock is slow
pub slows :
    (draft : Draft) (name : List ℕ) (ppm : ℕ) (first : Option ℕ) → IsSoundDraft draft →
    IsOneStage (Slows (Some draft) name ppm first)
slows draft name ppm first h a b x y =
    known (slows_named draft ppm first (node_named draft.names name)) a b
    (slows-sound draft ppm first (node_named draft.names name) h) x y

-- the node that a line declares, by the ranges of times and the number that it gets
abbrev node_of :
    (ports speed : ℕ) (link contender force : Bool) (power gap : ℕ) (gap_reset : Bool) (hold short long : Option ℕ) (word len : ℕ) (seed : Option ℕ) → TimeRanges → ℕ → PortNode
node_of ports speed link contender force power gap gap_reset hold short long word len seed ranges number =
    new_node (attrs_said speed link contender power gap) ports force gap_reset (times_of ranges hold short long) (coins_of number word len seed)

module _ (trees : NoListHasTwoTrees) (keeps : ActKeepsNodes) where
  runs : (stage : Stage) (command : Command) → IsSound stage → IsInRange (ranges_of stage) command →
      IsOneStage (DoesOnBus stage command)
  runs stage command h i a b x y =
      let same = does trees (bus_of stage) command (cabled stage h) x.0 y.0 x.1 y.1 in
      let left = leaves keeps (ranges_of stage) (bus_of stage) command (sound-bus stage h) i x.0 x.1 in (
        x.2 ∙ ap onwards same.0 ∙ sym y.2,
        subst LeavesSound (sym x.2) (onwards-sound x.0 left),
      )

  pub follows : (stage : Stage) (command : Command) → IsSound stage →
      IsInRange (ranges_of stage) command → IsOneStage (DoesAtStage stage command)
  follows fresh (Node name ports speed link contender force power gap gap_reset held short long word len seed packed) h i =
      declares first_draft name (node_of ports speed link contender force power gap gap_reset held short long word len seed) (no-nodes 4 (omega arith) (omega arith)) (node-at-power-on first_draft ports speed link contender force power gap gap_reset held short long word len seed (no-nodes 4 (omega arith) (omega arith)).fitting i) refl
  follows (declaring draft) (Node name ports speed link contender force power gap gap_reset held short long word len seed packed) h i =
      declares draft name (node_of ports speed link contender force power gap gap_reset held short long word len seed) h (node-at-power-on draft ports speed link contender force power gap gap_reset held short long word len seed h.fitting i) refl
  follows (running bus) (Node name ports speed link contender force power gap gap_reset held short long word len seed packed) h i =
      λ a b x y. known (Err Kind.Late) a b tt x y
  follows stage (Delay delay) h i = delays stage delay i
  follows fresh (Times standard nanoseconds) h i = says first_draft standard nanoseconds i.0 (no-nodes 4 (omega arith) (omega arith))
  follows (declaring draft) (Times standard nanoseconds) h i = says draft standard nanoseconds i.0 h
  follows (running bus) (Times standard nanoseconds) h i = λ a b x y. known (Err Kind.Late) a b tt x y
  follows fresh (Clock name ppm first) h i = slows first_draft name ppm first (no-nodes 4 (omega arith) (omega arith))
  follows (declaring draft) (Clock name ppm first) h i = slows draft name ppm first h
  follows (running bus) (Clock name ppm first) h i = λ a b x y. known (Err Kind.Late) a b tt x y
  follows stage command h i = runs stage command h i

  -- ---- lines

  abbrev IsOneFrom : (Stage → ScriptRun → Type 0) → Type 0
  IsOneFrom Rest = (stage : Stage) (one other : ScriptRun) → IsSound stage → Rest stage one → Rest stage other → one ≡ other

  goes :
      (number : ℕ) (Rest : Stage → ScriptRun → Type 0) (stage : Stage) (command : Command) (r : StageAnswer) (one other : ScriptRun) →
      IsOneFrom Rest → LeavesSound r → Proceeds number Rest stage command r one →
      Proceeds number Rest stage command r other → one ≡ other
  goes number Rest stage command (Ok (next, text)) one other rest h x y =
      x.2 ∙ ap (behind (done number stage command next text ∷ [])) (rest next x.0 y.0 h x.1 y.1) ∙ sym y.2
  goes number Rest stage command (Err kind) one other rest h x y = x ∙ sym y

  takes :
      (number : ℕ) (Rest : Stage → ScriptRun → Type 0) (stage : Stage) (line : List ℕ) (reading : Result (Option Command) Kind)
      (one other : ScriptRun) → IsOneFrom Rest → IsSound stage → ReadsLine (ranges_of stage) line reading →
      TakesLine number Rest stage reading one → TakesLine number Rest stage reading other →
      one ≡ other
  takes number Rest stage line (Ok None) one other rest h reads x y = rest stage one other h x y
  takes number Rest stage line (Ok (Some command)) one other rest h reads x y =
      let same = follows stage command h (in-range (ranges_of stage) line command reads) x.0 y.0 x.1 y.1 in
      let again : Proceeds number Rest stage command x.0 other =
      subst (λ (r : StageAnswer). Proceeds number Rest stage command r other) (sym same.0) y.2 in
      goes number Rest stage command x.0 one other rest same.1 x.2 again
  takes number Rest stage line (Err kind) one other rest h reads x y = x ∙ sym y

  from-each : (number : ℕ) (lines : List (List ℕ)) → IsOneFrom (RunsFrom number lines)
  from-each number [] stage one other h x y =
      let same : x.0 ≡ y.0 = (settles trees (bus_of stage) (cabled stage h) x.0 y.0 x.1 y.1).0 in
      x.2 ∙ ap (last_run number stage) same ∙ sym y.2
  from-each number (line ∷ lines) stage one other h x y =
      let same : y.0 ≡ x.0 = one_reading (ranges_of stage) line y.0 x.0 y.1 x.1 in
      let Rest : Stage → ScriptRun → Type 0 = RunsFrom (number + 1) lines in
      let again : TakesLine number Rest stage x.0 other =
      subst (λ (r : Result (Option Command) Kind). TakesLine number Rest stage r other) same y.2 in
      takes number Rest stage line x.0 one other (from-each (number + 1) lines) h x.1 x.2 again

  pub one-run : ScriptsHaveOneRun
  one-run bytes one other x y = from-each 1 (script_lines bytes) fresh one other tt x y

  pub one-told : ScriptsTellOneThing
  one-told bytes one other x y =
      x.2 ∙ ap result_of (one-run bytes x.0 y.0 x.1 y.1) ∙ sym y.2

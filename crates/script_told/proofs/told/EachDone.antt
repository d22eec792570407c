-- What holds of each command that was done in a run.
use Rattle.std.proofs.Common.{◌≡◌, ℕ, ◌+◌, Bool, true, false, List, [], ◌∷◌, Option, Some, None, refl, sym, ap, subst}
use Rattle.std.specs.Prelude.{Result, Ok, Err, All, IfOk, MatchBool, nat_lt}
use Rattle.std.proofs.lemmas.List.Elements.{All-nil, All-cons}
use Rattle.topology_stack.specs.OneAnswer.{NoListHasTwoTrees}
use Rattle.cable_world.specs.Unchanged.{ActKeepsNodes}
use Rattle.script_lines.specs.declared.kind.Kind.{Kind}
use Rattle.script_lines.specs.declared.command.Command.{Command}
use Rattle.script_lines.specs.declared.command.Command.TheVariants.{Settle}
use Rattle.script_lines.specs.Range.{IsInRange}
use Rattle.script_lines.specs.Line.{ReadsLine}
use Rattle.script_lines.proofs.Lemmas.{in-range}
use Rattle.settle.specs.declared.report.Report.{Report}
use Rattle.settle.specs.Report.{IsReport, quiet_turns_of}
use Rattle.script_told.specs.Bus.{Bus, Notes}
use Rattle.script_told.specs.Step.{LineAnswer, Reports, DoesSettle}
use Rattle.script_told.specs.SomeAnswer.{IsReachedBus}
use Rattle.script_told.specs.Script.{Stage, fresh, running, StageAnswer, bus_of, ranges_of, DoesAtStage, script_lines}
use Rattle.script_told.specs.Run.{Entry, ScriptRun, done, stopped, last_run, Proceeds, TakesLine, RunsFrom, IsRun}
use Rattle.script_told.proofs.told.Reached.{IsSound, sound-bus, leaves}
use Rattle.script_told.proofs.told.Lines.{follows}

-- a command of a run was done where the script had come to, and left a world that comes of power-on
pub record IsDone (entry : Entry) : Type 0 where
  pub sound : IsSound entry.before
  pub range : IsInRange (ranges_of entry.before) entry.command
  pub follows : DoesAtStage entry.before entry.command (Ok (entry.after, entry.text))
  pub left : IsSound entry.after

-- the world of a bus comes of power-on, and was just reported
pub record IsEnd (bus : Bus) : Type 0 where
  pub reached : IsReachedBus bus
  pub report : Report
  pub last : bus.notes.report ≡ Some report
  pub is : IsReport bus.world report

-- so was each, and the bus at the end was reported
pub record AllDone (run : ScriptRun) : Type 0 where
  pub each : All IsDone run.entries
  pub end : IfOk run.end IsEnd

-- a bus that has settled was reported
pub just-reported :
    (bus after : Bus) (text : List ℕ) → DoesSettle bus (Ok (after, text)) → IsReachedBus after →
    IsEnd after
just-reported bus after text s h = go (nat_lt 2000000 (bus.world.turns + quiet_turns_of bus.world)) s
  where
    go : (b : Bool) → MatchBool b (◌≡◌ {A = LineAnswer} (Ok (after, text)) (Err Kind.TooManyTurns)) (Reports bus (Ok (after, text))) → IsEnd after
    go true x = absurd cc
    go false x = record { reached = h; report = x.0; last = ap (λ (n : Notes). n.report) x.3; is = x.2 }

none-done : (number : ℕ) (kind : Kind) → AllDone (stopped number kind)
none-done number kind = record { each = All-nil IsDone; end = tt }

module _ (trees : NoListHasTwoTrees) (keeps : ActKeepsNodes) where
  abbrev IsDoneFrom : (Stage → ScriptRun → Type 0) → Type 0
  IsDoneFrom Rest = (stage : Stage) (run : ScriptRun) → IsSound stage → Rest stage run → AllDone run

  goes :
      (number : ℕ) (Rest : Stage → ScriptRun → Type 0) (stage : Stage) (command : Command) (r : StageAnswer) (run : ScriptRun) →
      IsDoneFrom Rest → IsSound stage → IsInRange (ranges_of stage) command →
      DoesAtStage stage command r →
      Proceeds number Rest stage command r run → AllDone run
  goes number Rest stage command (Ok (next, text)) run rest h i f x =
      let left : IsSound next = (follows trees keeps stage command h i (Ok (next, text)) (Ok (next, text)) f f).1 in
      let more = rest next x.0 left x.1 in
      subst AllDone (sym x.2) (record {
        each = All-cons IsDone (done number stage command next text) x.0.entries (record { sound = h; range = i; follows = f; left = left }) more.each;
        end = more.end;
      })
  goes number Rest stage command (Err kind) run rest h i f x = subst AllDone (sym x) (none-done number kind)

  takes :
      (number : ℕ) (Rest : Stage → ScriptRun → Type 0) (stage : Stage) (line : List ℕ) (reading : Result (Option Command) Kind)
      (run : ScriptRun) → IsDoneFrom Rest → IsSound stage →
      ReadsLine (ranges_of stage) line reading → TakesLine number Rest stage reading run → AllDone run
  takes number Rest stage line (Ok None) run rest h reads x = rest stage run h x
  takes number Rest stage line (Ok (Some command)) run rest h reads x =
      goes number Rest stage command x.0 run rest h (in-range (ranges_of stage) line command reads) x.1 x.2
  takes number Rest stage line (Err kind) run rest h reads x = subst AllDone (sym x) (none-done number kind)

  -- the `settle` behind the last line is a command too
  ends : (number : ℕ) (stage : Stage) (r : LineAnswer) → IsSound stage →
      DoesSettle (bus_of stage) r →
      AllDone (last_run number stage r)
  ends number stage (Ok (bus, text)) h s =
      let left = leaves keeps (ranges_of stage) (bus_of stage) Settle (sound-bus stage h) tt (Ok (bus, text)) s in
      record {
        each = All-cons IsDone (done number stage Settle (running bus) text) []
            (record { sound = h; range = tt; follows = (Ok (bus, text), s, refl); left = left }) (All-nil IsDone);
        end = just-reported (bus_of stage) bus text s left;
      }
  ends number stage (Err kind) h s = none-done number kind

  from-each : (number : ℕ) (lines : List (List ℕ)) → IsDoneFrom (RunsFrom number lines)
  from-each number [] stage run h x = subst AllDone (sym x.2) (ends number stage x.0 h x.1)
  from-each number (line ∷ lines) stage run h x =
      takes number (RunsFrom (number + 1) lines) stage line x.0 run (from-each (number + 1) lines) h x.1 x.2

  pub each-done : (bytes : List ℕ) (run : ScriptRun) → IsRun bytes run → AllDone run
  each-done bytes run x = from-each 1 (script_lines bytes) fresh run tt x

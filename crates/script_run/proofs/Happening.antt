-- Commands in which something happens to the world, and nothing is printed.
use Rattle.std.proofs.Common.{◌≡◌, Bool, true, false, ℕ, List, [], refl, sym, subst}
use Rattle.std.specs.Prelude.{Result, Ok, Err, OnOk}
use Rattle.std.proofs.lemmas.Bool.{false≢true}
use Rattle.std.proofs.lemmas.List.{append-nil}
use Rattle.script_lines.specs.declared.kind.LineStop.{LineStop}
use Rattle.script_lines.specs.declared.kind.LineStop.TheVariants.{Fault, Memory}
use Rattle.script_lines.specs.declared.command.Command.{Command}
use Rattle.script_lines.specs.declared.command.Command.TheVariants.{Node, Delay, Times, Clock, Settle, Plan}
use Rattle.script_told.specs.Script.{Stage, StageAnswer, DoesAtStage, DoesOnBus}
use Rattle.script_trace.specs.Voice.{Voice}
use Rattle.script_bus.specs.Happening.{happens}
use Rattle.script_bus.specs.Running.{Stops}
use Rattle.script_run.specs.Viewed.{Writing, prints_report}
use Rattle.script_run.specs.codings.Going.{Follows, HearsAt}

-- such a command runs the bus
pub happens-at : (stage : Stage) (command : Command) (answer : StageAnswer) → happens command ≡ true →
    DoesOnBus stage command answer → DoesAtStage stage command answer
happens-at stage (Node name ports speed link contender force power gap gap_reset hold short long word len seed packed) answer e h = absurd (false≢true e)
happens-at stage (Delay delay) answer e h = absurd (false≢true e)
happens-at stage (Times standard nanoseconds) answer e h = absurd (false≢true e)
happens-at stage (Clock name ppm first) answer e h = absurd (false≢true e)
happens-at stage command answer e h = h

pub happens-stop : (stage : Stage) (command : Command) → happens command ≡ true → (stop : LineStop) →
    Stops (DoesOnBus stage command) stop → Stops (DoesAtStage stage command) stop
happens-stop stage command e (Fault kind) h = happens-at stage command (Err kind) e h
happens-stop stage command e (Memory none) h = tt

-- and prints no report
no-report : (command : Command) → happens command ≡ true → prints_report command ≡ false
no-report Settle e = absurd (false≢true e)
no-report (Plan name) e = absurd (false≢true e)
no-report command e = refl

-- so nothing is written of it
pub happened :
    {E : Type 0} (voice : Voice) (Writes : Writing) (stage : Stage) (command : Command) (next : Stage)
    (text out new : List ℕ) (r : Result (Unit {0}) E) → happens command ≡ true → ((after : Stage) → Writes false after [] []) →
    OnOk r (DoesOnBus stage command (Ok (next, []))) → OnOk r (HearsAt voice stage command next out new) →
    OnOk r (Follows voice Writes stage command next text text out new)
happened voice Writes stage command next text out new (Err stop) e nothing does heard = tt
happened voice Writes stage command next text out new (Ok done) e nothing does heard = record {
  text = [];
  does = happens-at stage command (Ok (next, [])) e does;
  written = record {
    added = [];
    is = subst (λ (b : Bool). Writes b next [] []) (sym (no-report command e)) (nothing next);
    after_is = sym (append-nil text);
  };
  heard = heard;
}

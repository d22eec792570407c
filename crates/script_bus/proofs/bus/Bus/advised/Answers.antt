use Rattle.std.proofs.Common.{◌≡◌, ◌∙◌, ◌++◌, ℕ, List, sym, subst, refl, ap}
use Rattle.std.proofs.lemmas.Result.{IfErr-weaker}
use Rattle.std.specs.Prelude.{Option, None, Some, Ok, Err, IsSomeAnd, IfSome}
use Rattle.settle.specs.declared.report.Report.{Report}
use Rattle.settle.specs.Report.{IsReport}
use Rattle.script_lines.specs.declared.kind.LineStop.{LineStop}
use Rattle.script_lines.specs.declared.kind.LineStop.TheVariants.{Fault, Memory}
use Rattle.script_told.specs.Bus.{Bus}
use Rattle.script_told.specs.Step.{LineAnswer, DoesSettle}
use Rattle.script_bus.specs.Running.{Stops}
use Rattle.script_advice.specs.declared.advice.LoopAdvice.{LoopAdvice}
use Rattle.script_advice.specs.Advice.{all_pulls, AreAdvices, loops_of, PullsLead, Advises, after_text, advice_text}
use Rattle.script_advice.specs.Advising.{ArePullable}
use Rattle.script_bus.proofs.Doing.{ok-then}
use Rattle.script_bus.proofs.bus.Bus.advised.Goals as goal

pub pull_all-requires : goal.pull_all-requires
pull_all-requires c =
    subst (λ (advices : List LoopAdvice). ArePullable c.args.self.world.cabling (all_pulls advices)) (sym c.deref.ensures.value) c.in_ok-advices.ensures.pulls

-- the parts of an advice
advises :
    (bus pulled : Bus) (advices : List LoopAdvice) (settled answer : LineAnswer) →
    IsSomeAnd bus.notes.report (IsReport bus.world) →
    IfSome bus.notes.report (λ report. AreAdvices bus.world.cabling (loops_of report.parts) advices) →
    PullsLead bus (all_pulls advices) pulled → DoesSettle pulled settled →
    answer ≡ after_text (advice_text bus.notes.names advices) settled → Advises bus answer
advises bus pulled advices settled answer has are pulls settles is = by bus.notes.report refl has are
  where
    by : (o : Option Report) → bus.notes.report ≡ o → IsSomeAnd o (IsReport bus.world) →
        IfSome o (λ report. AreAdvices bus.world.cabling (loops_of report.parts) advices) → Advises bus answer
    by None e h k = absurd h
    by (Some report) e h k = record {
      report = report;
      last = e;
      advices = advices;
      are = k;
      pulled = pulled;
      pulls = pulls;
      settled = settled;
      settles = settles;
      answer_is = is;
    }

pub returns-clause-done : goal.returns-clause-done
returns-clause-done c =
    let advices = c.in_ok-advices.advices.items in
    let told = c.in_ok-advices.ensures in
    let pulls = subst (λ (l : List LoopAdvice). PullsLead c.args.self (all_pulls l) c.in_ok-bus.bus) c.deref.ensures.value c.in_ok-bus.ensures in
    ok-then c.settled_text.result _ _ (λ whole h. (
      h.0,
      advises c.args.self c.in_ok-bus.bus advices (Ok (h.0, h.1)) (Ok (h.0, whole.items)) c.requires told.are pulls h.2
          (ap (λ (l : List ℕ). Ok (h.0, l)) (h.3 ∙ ap (λ (l : List ℕ). l ++ h.1) told.text)),
    )) c.settled_text.ensures.done

pub returns-clause-stop : goal.returns-clause-stop
returns-clause-stop c = IfErr-weaker c.settled_text.result (Stops (DoesSettle c.in_ok-bus.bus))
    (Stops (Advises c.args.self)) by c.settled_text.ensures.stop
  where
    by : (stop : LineStop) → Stops (DoesSettle c.in_ok-bus.bus) stop →
        Stops (Advises c.args.self) stop
    by (Memory none) h = tt
    by (Fault kind) h =
        advises c.args.self c.in_ok-bus.bus c.in_ok-advices.advices.items (Err kind) (Err kind) c.requires c.in_ok-advices.ensures.are
        (subst (λ (l : List LoopAdvice). PullsLead c.args.self (all_pulls l) c.in_ok-bus.bus) c.deref.ensures.value c.in_ok-bus.ensures) h refl

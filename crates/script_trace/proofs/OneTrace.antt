-- A script has one trace, exactly where it has a text.
use Rattle.std.proofs.Common.{◌≡◌, ◌++◌, ℕ, List, [], ◌∷◌, Some, refl, sym, ◌∙◌, ap, subst}
use Rattle.std.specs.Prelude.{Result, Ok, Err, All}
use Rattle.std.proofs.lemmas.List.Elements.{All-head, All-tail}
use Rattle.cable_world.specs.Unchanged.{ActKeepsNodes}
use Rattle.cable_world.proofs.Lemmas.{some-same}
use Rattle.topology_stack.specs.OneAnswer.{NoListHasTwoTrees}
use Rattle.root_plan.specs.declared.choice.RootPlan.{RootPlan}
use Rattle.script_lines.specs.declared.kind.Kind.{Kind}
use Rattle.script_lines.specs.declared.kind.ScriptFault.{ScriptFault}
use Rattle.script_lines.specs.declared.command.Command.{Command}
use Rattle.script_lines.specs.declared.command.Command.TheVariants.{Node, Plug, Pull, Reset, Turn, Hold, Settle, Config, Plan, Delay, Times, Clock}
use Rattle.script_told.specs.Bus.{Bus, ReportedTree, tree_with}
use Rattle.script_told.specs.Step.{LineAnswer, CarriesOut, Does}
use Rattle.script_told.specs.Script.{Stage, fresh, declaring, running, DoesOnBus, DoesAtStage, onwards, ScriptResult, bus_of}
use Rattle.script_told.specs.Run.{Entry, ScriptRun, printed, unless_stopped}
use Rattle.script_told.specs.EachPlan.{IsCarriedOut}
use Rattle.script_told.proofs.Lemmas.{stage-in, IsCabled, same-plan, same-sent, IsSound, cabled, one-run, IsDone, each-done, plan-carried, not-both, same-fault}
use Rattle.script_trace.specs.Voice.{Voice, legend_of}
use Rattle.script_trace.specs.Trace.{act_trace, quiet_trace, TracesPlan, Traces, TracesAt, AllTrace, IsTraceOf, trace_voice}
use Rattle.script_trace.specs.OneTelling.{RunsAreToldOnce, RunsAreTold}
use Rattle.script_trace.specs.OneTrace.{ScriptsHaveOneTrace, TracedScriptsAreTold, TraceFaultsAreTold, HasTrace, RunsHaveTraces}

-- ---- one command

-- what happens in a plan, by its packet and by the bus once that was sent
plan-lines : Voice → Bus → Bus → List ℕ → RootPlan → Bus → List ℕ
plan-lines v bus after name plan sent =
    act_trace v (legend_of after.notes) (Config name (Some plan.root_id) (Some plan.gap)) bus.world sent.world
    ++ quiet_trace v (legend_of after.notes) sent.world

one-plan :
    NoListHasTwoTrees → (v : Voice) (bus after : Bus) (name xs ys : List ℕ) → IsCabled bus.world →
    TracesPlan v bus name after xs → TracesPlan v bus name after ys → xs ≡ ys
unfolding plan-lines
one-plan trees v bus after name xs ys h x y =
    let node : y.node ≡ x.node = some-same y.node x.node (sym y.named ∙ x.named) in
    let settled : tree_with x.node bus.notes ≡ Some y.tree = subst (λ (k : ℕ). tree_with k bus.notes ≡ Some y.tree) node y.settled in
    let tree : y.tree ≡ x.tree = some-same y.tree x.tree (sym settled ∙ x.settled) in
    same x.node y.node node x.tree y.tree tree x.text y.text x.carried y.carried x.lines_are y.lines_are
  where
    same :
        (j k : ℕ) → k ≡ j → (t u : ReportedTree) → u ≡ t → (s r : List ℕ) →
        (p : CarriesOut bus name j t after s) (q : CarriesOut bus name k u after r) →
        xs ≡ plan-lines v bus after name p.plan p.sent → ys ≡ plan-lines v bus after name q.plan q.sent →
        xs ≡ ys
    same j k e t u f s r p q is also =
        let Q : ℕ → ReportedTree → Type 0 = λ i z. (c : CarriesOut bus name i z after r) ×
        (ys ≡ plan-lines v bus after name c.plan c.sent) in
        let d : Q j t = subst (λ (v : ReportedTree). Q j v) f
        (subst (λ (i : ℕ). Q i u) e (q, also)) in
        let plan : p.plan ≡ d.0.plan = same-plan trees bus name j t after s after r p d.0 in
        let sent : p.sent ≡ d.0.sent = (same-sent trees bus name j t h after s after r p d.0).0 in
        is
        ∙ ap (λ (z : RootPlan). plan-lines v bus after name z p.sent) plan
        ∙ ap (plan-lines v bus after name d.0.plan) sent
        ∙ sym d.1

one-command :
    NoListHasTwoTrees → (v : Voice) (bus after : Bus) (command : Command) (xs ys : List ℕ) → IsCabled bus.world →
    Traces v bus command after xs → Traces v bus command after ys → xs ≡ ys
one-command trees v bus after (Plan name) xs ys h x y = one-plan trees v bus after name xs ys h x y
one-command trees v bus after command xs ys h x y = x ∙ sym y

one-at :
    NoListHasTwoTrees → (v : Voice) (stage : Stage) (command : Command) (next : Stage) (xs ys : List ℕ) →
    IsSound stage → TracesAt v stage command next xs → TracesAt v stage command next ys → xs ≡ ys
one-at trees v stage command fresh xs ys h x y = x ∙ sym y
one-at trees v stage command (declaring draft) xs ys h x y = x ∙ sym y
one-at trees v stage command (running after) xs ys h x y =
    one-command trees v (bus_of stage) after command xs ys (cabled stage h) x y

-- ---- the commands of a run

one-trace-of :
    NoListHasTwoTrees → (v : Voice) (entries : List Entry) (xs ys : List ℕ) → All IsDone entries →
    AllTrace v entries xs → AllTrace v entries ys → xs ≡ ys
one-trace-of trees v [] xs ys h x y = x ∙ sym y
one-trace-of trees v (e ∷ entries) xs ys h x y =
    let sound = (All-head IsDone e entries h).sound in
    let one = one-at trees v e.before e.command e.after x.0 y.0 sound x.2 y.2 in
    let more = one-trace-of trees v entries x.1 y.1 (All-tail IsDone e entries h) x.3 y.3 in
    x.4 ∙ ap (λ (l : List ℕ). l ++ x.1) one ∙ ap (λ (l : List ℕ). y.0 ++ l) more ∙ sym y.4

same-told :
    NoListHasTwoTrees → (run : ScriptRun) (one other : ScriptResult) → All IsDone run.entries →
    IsTraceOf run one → IsTraceOf run other → one ≡ other
same-told trees run (Ok xs) (Ok ys) h x y = ap Ok (one-trace-of trees trace_voice run.entries xs ys h x.2 y.2)
same-told trees run (Ok xs) (Err f) h x y = absurd (not-both x.0 f (sym x.1 ∙ y))
same-told trees run (Err f) (Ok ys) h x y = absurd (not-both y.0 f (sym y.1 ∙ x))
same-told trees run (Err f) (Err g) h x y = ap Err (same-fault f g (sym x ∙ y))

pub one-trace : NoListHasTwoTrees → ActKeepsNodes → ScriptsHaveOneTrace
one-trace trees keeps bytes one other x y =
    let run : y.0 ≡ x.0 = one-run trees keeps bytes y.0 x.0 y.1 x.1 in
    same-told trees x.0 one other (each-done trees keeps bytes x.0 x.1).each x.2
    (subst (λ (r : ScriptRun). IsTraceOf r other) run y.2)

pub told-once : NoListHasTwoTrees → ActKeepsNodes → RunsAreToldOnce
told-once trees keeps v bytes run one other is x y =
    one-trace-of trees v run.entries one other (each-done trees keeps bytes run is).each x y

-- ---- a trace and a text

pub traced-told : TracedScriptsAreTold
traced-told bytes lines x =
    (printed x.0.entries, (x.0, x.1, sym (ap (unless_stopped (printed x.0.entries)) x.2.1)))

pub fault-told : TraceFaultsAreTold
fault-told bytes fault x = (x.0, x.1, sym (ap (unless_stopped (printed x.0.entries)) x.2))

-- ---- each run has a trace

abbrev HasLines : Voice → Bus → Command → Bus → Type 0
HasLines v bus command after = (lines : List ℕ) × Traces v bus command after lines

-- where a plan was carried out, what happened in it can be told
plan-has-lines :
    (v : Voice) (bus : Bus) (name : List ℕ) (after : Bus) (text : List ℕ) → IsCarriedOut bus name after text →
    HasLines v bus (Plan name) after
unfolding plan-lines
plan-has-lines v bus name after text c = (
  plan-lines v bus after name c.carried.plan c.carried.sent,
  record {
    node = c.node;
    named = c.named;
    tree = c.tree;
    settled = c.settled;
    text = text;
    carried = c.carried;
    lines_are = refl;
  },
)

command-lines : (v : Voice) (bus : Bus) (command : Command) (after : Bus) (text : List ℕ) →
    Does bus command (Ok (after, text)) → HasLines v bus command after
command-lines v bus (Plan name) after text x = plan-has-lines v bus name after text (plan-carried bus name after text x)
command-lines v bus (Plug a a_port b b_port) after text x = (_, refl)
command-lines v bus (Pull name port) after text x = (_, refl)
command-lines v bus (Reset name) after text x = (_, refl)
command-lines v bus (Config name root_id gap) after text x = (_, refl)
command-lines v bus (Hold name port turns) after text x = (_, refl)
command-lines v bus (Turn count) after text x = (_, refl)
command-lines v bus Settle after text x = (_, refl)
command-lines v bus command after text x = ([], refl)

stage-lines :
    (v : Voice) (stage : Stage) (command : Command) (next : Stage) (text : List ℕ) →
    DoesAtStage stage command (Ok (next, text)) → (lines : List ℕ) ×
    TracesAt v stage command next lines
stage-lines v stage command fresh text f = ([], refl)
stage-lines v stage command (declaring draft) text f = ([], refl)
stage-lines v stage command (running after) text f = by-command command f
  where
    of-runs : (c : Command) → DoesOnBus stage c (Ok (running after, text)) →
        HasLines v (bus_of stage) c after
    of-runs c r = go r.0 r.1 r.2
      where
        go : (a : LineAnswer) → Does (bus_of stage) c a → Ok (running after, text) ≡ onwards a → HasLines v (bus_of stage) c after
        go (Ok (bus, t)) d e = command-lines v (bus_of stage) c after t (subst (λ (z : Bus). Does (bus_of stage) c (Ok (z, t))) (same bus t e) d)
          where
            one-bus : (z : Bus) → running after ≡ running z → z ≡ after
            one-bus z k = cc

            same : (z : Bus) (u : List ℕ) → Ok (running after, text) ≡ onwards (Ok (z, u)) → z ≡ after
            same z u k = one-bus z (ap stage-in k)
        go (Err kind) d e = absurd (no kind e)
          where
            no : (k : Kind) → Ok (running after, text) ≡ onwards (Err k) → ⊥
            no k g = absurd cc

    by-command : (c : Command) → DoesAtStage stage c (Ok (running after, text)) →
        HasLines v (bus_of stage) c after
    by-command
        (Node name ports speed link contender force power gap gap_reset hold short long word len seed packed)
        g = ([], refl)
    by-command (Delay delay) g = ([], refl)
    by-command (Times standard nanoseconds) g = ([], refl)
    by-command (Clock name ppm first) g = ([], refl)
    by-command c g = of-runs c g

each-has-lines : (v : Voice) (entries : List Entry) → All IsDone entries →
    (lines : List ℕ) × AllTrace v entries lines
each-has-lines v [] h = ([], refl)
each-has-lines v (e ∷ entries) h =
    let one = stage-lines v e.before e.command e.after e.text (All-head IsDone e entries h).follows in
    let more = each-has-lines v entries (All-tail IsDone e entries h) in
    (one.0 ++ more.0, (one.0, more.0, one.1, more.1, refl))

some-trace : (run : ScriptRun) → All IsDone run.entries → HasTrace run
some-trace run h = go run.end refl
  where
    go : (end : Result Bus ScriptFault) → run.end ≡ end → HasTrace run
    go (Ok bus) e = let l = each-has-lines trace_voice run.entries h in record { told = Ok l.0; is = (bus, e, l.1) }
    go (Err fault) e = record { told = Err fault; is = e }

pub some-traces : NoListHasTwoTrees → ActKeepsNodes → RunsHaveTraces
some-traces trees keeps bytes run x = some-trace run (each-done trees keeps bytes run x).each

pub each-told : NoListHasTwoTrees → ActKeepsNodes → RunsAreTold
each-told trees keeps v bytes run x = each-has-lines v run.entries (each-done trees keeps bytes run x).each

-- Each script has an advice.
use Rattle.std.proofs.Common.{◌≡◌, ◌++◌, inl, inr, List, [], ◌∷◌, None, map, refl, sym, ap, subst}
use Rattle.std.specs.Prelude.{Result, Ok, Err, All}
use Rattle.std.proofs.lemmas.List.Elements.{All-nil, All-cons, All-head, All-tail}
use Rattle.topology_stack.specs.OneAnswer.{NoListHasTwoTrees}
use Rattle.cabling.specs.declared.cable.Cable.{Cable}
use Rattle.cabling.specs.Wiring.{Wiring, IsCabling}
use Rattle.cabling.specs.NodeSet.{Nodes}
use Rattle.cabling.specs.Existence.{ComponentsExist}
use Rattle.cable_world.specs.declared.act.Act.TheVariants.{Pull}
use Rattle.cable_world.specs.World.{CableWorld}
use Rattle.cable_world.specs.Act.{act_fault}
use Rattle.cable_world.specs.Unchanged.{ActKeepsNodes}
use Rattle.cable_world.proofs.Lemmas.{reached-lawful}
use Rattle.loop_advice.specs.SomeAdvice.{HasAdvice, AdvicesExist}
use Rattle.settle.specs.declared.report.Outcome.{Outcome}
use Rattle.settle.specs.declared.report.Outcome.TheVariants as reported
use Rattle.settle.specs.declared.report.Part.{Part}
use Rattle.settle.specs.Report.{IsPart}
use Rattle.script_lines.specs.declared.kind.ScriptFault.{ScriptFault}
use Rattle.script_told.specs.Bus.{Bus}
use Rattle.script_told.specs.Step.{LineAnswer, Acts, DoesSettle, notes_after_act}
use Rattle.script_told.specs.Run.{printed, unless_stopped}
use Rattle.script_told.specs.SomeAnswer.{IsReachedBus, HasAnswer, BusesSettle}
use Rattle.script_told.proofs.Lemmas.{act-leads, do-act, IsEnd}
use Rattle.script_advice.specs.declared.advice.LoopAdvice.{LoopAdvice}
use Rattle.script_advice.specs.Advice.{RunsTo, if_loop, loops_of, IsAdviceFor, AreAdvices, all_pulls, PullsLead, advice_text, after_text, Advises, told_at_end}
use Rattle.script_advice.specs.Advising.{ArePullable}
use Rattle.script_advice.proofs.Lemmas.{fewest-of, next-pullable, reported-pullable, end-of}
use Rattle.script_bus.specs.SomeRun.{HasRun, EachScriptHasARun}
use Rattle.script_bus.specs.SomeAdvice.{HasSomeAdvice, EachScriptHasAnAdvice}
use Rattle.cabling.proofs.Lemmas.{can-pull}

-- ---- an advice for each loop

abbrev nodes-of : List LoopAdvice → List Nodes
nodes-of advices = map (λ (a : LoopAdvice). a.nodes) advices

-- advices for these components
abbrev HasAdvices : Wiring → List Nodes → Type 0
HasAdvices c components = (advices : List LoopAdvice) × All (IsAdviceFor c) advices × (nodes-of advices ≡ components)

one-more :
    (c : Wiring) (a : LoopAdvice) (components : List Nodes) → IsAdviceFor c a → HasAdvices c components →
    HasAdvices c (a.nodes ∷ components)
one-more c a components is (advices, each, are) =
    (a ∷ advices, All-cons (IsAdviceFor c) a advices is each, ap (λ (l : List Nodes). a.nodes ∷ l) are)

advice-for : AdvicesExist → (w : CableWorld) (part : Part) → IsCabling w.cabling → IsPart w part →
    (a : LoopAdvice) × IsAdviceFor w.cabling a × (a.nodes ≡ part.nodes)
advice-for exist w part cables is =
    let found : HasAdvice w.cabling is.node part.nodes =
    exist w.cabling is.node part.nodes cables (is.there is.node is.component.holds) is.component in (
      record { nodes = part.nodes; advice = record { pulls = found.pulls; kept = found.kept } },
      record {
        node = is.node;
        component = is.component;
        advised = found.advised;
        valid = found.valid;
        fewest = fewest-of w.cabling is.node part.nodes found.pulls found.kept cables is.there is.component found.valid;
      },
      refl,
    )

part-advices :
    AdvicesExist → (w : CableWorld) (part : Part) (components : List Nodes) → IsCabling w.cabling → IsPart w part →
    HasAdvices w.cabling components → HasAdvices w.cabling (if_loop part.outcome part.nodes ++ components)
part-advices exist w part components cables is rest = by part.outcome
  where
    by : (o : Outcome) → HasAdvices w.cabling (if_loop o part.nodes ++ components)
    by (reported.Loop core) =
        let a = advice-for exist w part cables is in
        subst (λ (n : Nodes). HasAdvices w.cabling (n ∷ components)) a.2 (one-more w.cabling a.0 components a.1 rest)
    by (reported.Tree root list order) = rest
    by (reported.Contention x y) = rest

some-advices : AdvicesExist → (w : CableWorld) (parts : List Part) → IsCabling w.cabling →
    All (IsPart w) parts → HasAdvices w.cabling (loops_of parts)
some-advices exist w [] cables each = ([], All-nil (IsAdviceFor w.cabling), refl)
some-advices exist w (part ∷ parts) cables each =
    part-advices exist w part (loops_of parts) cables (All-head (IsPart w) part parts each)
    (some-advices exist w parts cables (All-tail (IsPart w) part parts each))

-- ---- the cables are pulled

some-pulls :
    ComponentsExist → ActKeepsNodes → (bus : Bus) (cables : List Cable) → IsReachedBus bus →
    ArePullable bus.world.cabling cables → (after : Bus) × PullsLead bus cables after × IsReachedBus after
some-pulls components keeps bus [] h may = (bus, refl, h)
some-pulls components keeps bus (x ∷ cables) h may =
    let none : act_fault (Pull x.a) bus.world ≡ None = can-pull bus.world.cabling x.a x.b may.0 in
    let v = act-leads components (Pull x.a) bus.world h.reached none in
    let next : Bus = record { world = v.0; notes = notes_after_act bus.notes } in
    let done : Acts bus (Pull x.a) (Ok (next, [])) = (none, v.1, refl, refl) in
    let there : IsReachedBus next = do-act keeps bus (Pull x.a) h tt (Ok (next, [])) done in
    let left = next-pullable bus.world v.0 x cables (reached-lawful bus.world h.reached).well_formed.cabling may v.1 in
    let rest = some-pulls components keeps next cables there left.1 in
    (rest.0, (next, done, rest.1), rest.2)

-- ---- the advice of a bus

advised :
    ComponentsExist → AdvicesExist → ActKeepsNodes → BusesSettle → (bus : Bus) → IsEnd bus →
    (answer : LineAnswer) × Advises bus answer
advised components exist keeps settle bus end =
    let cables = (reached-lawful bus.world end.reached.reached).well_formed.cabling in
    let found = some-advices exist bus.world end.report.parts cables end.is.parts.each in
    let are : AreAdvices bus.world.cabling (loops_of end.report.parts) found.0 = record { each = found.1; are = found.2 } in
    let may = reported-pullable bus.world end.report found.0 cables end.is are in
    let pulled = some-pulls components keeps bus (all_pulls found.0) end.reached may in
    let last : HasAnswer (DoesSettle pulled.0) = settle pulled.0 pulled.2 in (
      after_text (advice_text bus.notes.names found.0) last.answer,
      record {
        report = end.report;
        last = end.last;
        advices = found.0;
        are = are;
        pulled = pulled.0;
        pulls = pulled.1;
        settled = last.answer;
        settles = last.is;
        answer_is = refl;
      },
    )

pub some-advice :
    NoListHasTwoTrees → ActKeepsNodes → ComponentsExist → AdvicesExist → BusesSettle → EachScriptHasARun →
    EachScriptHasAnAdvice
some-advice trees keeps components exist settle run bytes = go r.run.end refl
  where
    r : HasRun bytes
    r = run bytes

    go : (end : Result Bus ScriptFault) → r.run.end ≡ end → HasSomeAdvice bytes
    go (Ok bus) e =
        let ran : RunsTo bytes bus = (r.run, r.is, e) in
        let a = advised components exist keeps settle bus (end-of trees keeps bytes bus ran) in
        record {
          told = told_at_end bytes a.0;
          is = inr (record { bus = bus; ran = ran; answer = a.0; advises = a.1; is = refl });
        }
    go (Err fault) e = record {
      told = Err fault;
      is = inl (record {
        fault = fault;
        told_so = (r.run, r.is, sym (ap (unless_stopped (printed r.run.entries)) e));
        is = refl;
      });
    }

-- A node that alone waits becomes root where the bus settles behind acts alone.
use Rattle.std.proofs.Common.{◌≡◌, ◌⊎◌, inl, inr, ◌+◌, ◌++◌, ◌<◌, ◌^◌, ℕ, zero, suc, Bool, true, false, List, [], ◌∷◌, Option, Some, None, length, slice_get, refl, sym, subst, ◌∙◌, ap, arith, append_assoc}
use Rattle.std.specs.Prelude.{Result, Ok, Err, Any, All, nat_lt, if◌then◌else◌}
use Rattle.std.proofs.lemmas.Option.{slice_get_within}
use Rattle.topology_stack.specs.Tree.{Tree}
use Rattle.topology_stack.specs.OneAnswer.{NoListHasTwoTrees}
use Rattle.cabling.specs.NodeSet.{Holds}
use Rattle.cabling.specs.Existence.{HasComponent, ComponentsExist}
use Rattle.cabling.proofs.Lemmas.{Loopless, loopless, small-set}
use Rattle.port_state.specs.Machine.{PortNode}
use Rattle.cable_world.specs.declared.act.Act.{Act}
use Rattle.cable_world.specs.World.{CableWorld, NodeNumber, NodeSet, IsPowerOnWorld}
use Rattle.cable_world.specs.Unchanged.{ActKeepsNodes}
use Rattle.cable_world.specs.Lawful.{IsLawful}
use Rattle.cable_world.specs.Quiet.{no_holds, quiet_after}
use Rattle.cable_world.specs.Turn.{turns_after}
use Rattle.cable_world.specs.Fresh.{IsFresh}
use Rattle.cable_world.specs.Outcome.{IsTree}
use Rattle.cable_world.specs.Run.{IsReached}
use Rattle.cable_world.specs.Events.{Event, acts, holds, turns, Runs, turn_count}
use Rattle.cable_world.proofs.Lemmas.{some-of, plain-quiet, reached-comes, reached-lawful, act-reached, after-cabling}
use Rattle.outcomes.proofs.Lemmas.{reached-enough}
use Rattle.settle.specs.Report.{IsTreeFrom, quiet_turns_of}
use Rattle.settle.proofs.Lemmas.{found, turns-enough}
use Rattle.world_laws.specs.Freshness.{IsTouchedIn, PowerOnIsFresh, ActsMakeFreshOnceSettled, FreshRootsSettle}
use Rattle.script_lines.specs.declared.kind.Kind.{Kind}
use Rattle.script_lines.specs.declared.kind.Kind.TheVariants.{Twice, Late, TooManyNodes}
use Rattle.script_lines.specs.declared.times.ScriptTimes.{ScriptTimes}
use Rattle.script_lines.specs.Times.{standard_times}
use Rattle.script_lines.specs.declared.command.Command.{Command}
use Rattle.script_lines.specs.declared.command.Command.TheVariants as command
use Rattle.script_text.specs.ReportText.{Names, IsReportText}
use Rattle.port_state.specs.declared.ranges.TimeRanges.{TimeRanges}
use Rattle.script_lines.specs.Clock.{gap_of, clock_said, slow_ranges}
use Rattle.script_lines.specs.declared.clock.TooSlow.{TooSlow}
use Rattle.port_state.specs.Clock.{is_even}
use Rattle.script_told.specs.Bus.{Bus, Notes, is_declared, node_named}
use Rattle.script_told.specs.Step.{Reports, config_of}
use Rattle.script_told.specs.Script.{Draft, Stage, fresh, declaring, running, StageAnswer, bus_of, first_draft, takes_times, with_times, with_node, with_clock, slows_node, slows_named, draft_of, Declares as IsDeclared, Delays, SaysTimes, Slows, DoesAtStage}
use Rattle.script_told.specs.Run.{Entry}
use Rattle.script_told.specs.Reached.{world_of}
use Rattle.script_told.specs.SomeAnswer.{IsReachedBus}
use Rattle.script_told.specs.EachPlan.{IsCarriedOut}
use Rattle.script_told.specs.EachReport.{DoesReport}
use Rattle.script_told.specs.ScriptEvents.{Declares, TakesNoTurn, RunsOn}
use Rattle.script_told.specs.PrintedTree.{PrintsTree}
use Rattle.script_told.proofs.Lemmas.{declares-or-not, late, stage-in, prints-tree, plan-act, plan-carried, draft-power, no-nodes, sound-bus, IsSound, IsDone, each-done, runs-on}
use Rattle.script_bus.specs.EachWaiting.{ResetsOneOf, power_on, report, OneNodeWaits, IsRootOf, EachWaitingNodeBecomesRoot}
use Rattle.script_bus.proofs.EachConfig.{reports-of, by-answer}
use Rattle.script_bus.proofs.FollowOn.{LeadsOn, leads-on, leads-behind, at-split, behind-split, front-split}

-- ---- events in a row

-- an act of these events resets a node of the set
record IsTouched (set : NodeSet) (w v : CableWorld) (events : List Event) (run : Runs events w v)
    : Type 0 where
  node : NodeNumber
  holds : Holds set node
  is : IsTouchedIn node events w v run

no-turns : (a b : List Event) → turn_count a ≡ 0 → turn_count b ≡ 0 → turn_count (a ++ b) ≡ 0
no-turns [] b one other = other
no-turns (acts x ∷ a) b one other = no-turns a b one other
no-turns (holds end n ∷ a) b one other = no-turns a b one other
no-turns (turns ∷ a) b one other = absurd (omega (arith, one))

-- both runs, and what they touch
record Joined
    (a b : List Event) (w u v : CableWorld) (first : Runs a w u) (next : Runs b u v) : Type 0 where
  run : Runs (a ++ b) w v
  by_first : (k : NodeNumber) → IsTouchedIn k a w u first → IsTouchedIn k (a ++ b) w v run
  by_next : (k : NodeNumber) → IsTouchedIn k b u v next → IsTouchedIn k (a ++ b) w v run

abbrev Goes : (b : List Event) (u v : CableWorld) → Runs b u v → CableWorld → Type 0
Goes b u v next z = (run : Runs b z v) × ((k : NodeNumber) → IsTouchedIn k b u v next → IsTouchedIn k b z v run)

joined :
    (a b : List Event) (w u v : CableWorld) (first : Runs a w u) (next : Runs b u v) →
    Joined a b w u v first next
joined [] b w u v first next =
    let g : Goes b u v next w = subst (Goes b u v next) first (next, λ k h. h) in
    record { run = g.0; by_first = λ k h. absurd h; by_next = g.1 }
joined (acts x ∷ a) b w u v first next =
    let j = joined a b first.0 u v first.2 next in
    record {
      run = (first.0, first.1, j.run);
      by_first = λ k h. elim h [ inl t ↦ inl t | inr r ↦ inr (j.by_first k r) ];
      by_next = λ k h. inr (j.by_next k h);
    }
joined (holds end n ∷ a) b w u v first next =
    let j = joined a b first.0 u v first.2 next in
    record { run = (first.0, first.1, j.run); by_first = j.by_first; by_next = j.by_next }
joined (turns ∷ a) b w u v first next =
    let j = joined a b first.0 u v first.2 next in
    record { run = (first.0, first.1, j.run); by_first = j.by_first; by_next = j.by_next }

-- ---- behind a report

none-in : (P : Entry → Type 0) → Any P [] → ⊥
none-in P (k, x, less, at, is) = omega (arith, less)

in-first-or-rest : (P : Entry → Type 0) (e : Entry) (entries : List Entry) → Any P (e ∷ entries) →
    P e ⊎ Any P entries
in-first-or-rest P e entries (zero, x, less, at, is) = inl (subst P (sym at) is)
in-first-or-rest P e entries (suc k, x, less, at, is) = inr (k, x, omega (arith, less), at, is)

-- commands of a bus that runs, in none of which a turn passes
record AtOnce (from : Stage) (acting : List Entry) (to : Stage) : Type 0 where
  events : List Event
  run : Runs events (world_of from) (world_of to)
  no_turn : turn_count events ≡ 0
  touches : (set : NodeSet) → Any (ResetsOneOf set) acting →
      IsTouched set (world_of from) (world_of to) events run

-- the events of the command touch what it resets
first-touches :
    (e : Entry) (r : RunsOn e) (set : NodeSet) → ResetsOneOf set e →
    IsTouched set (world_of e.before) r.after.world r.does.events r.does.run
first-touches e r set h =
    let f = r.does.first h.a h.is in
    let motive : List Event → Type 0 = λ es.
    (run : Runs es (world_of e.before) r.after.world) → IsTouchedIn h.node es (world_of e.before) r.after.world run in
    record {
      node = h.node;
      holds = h.holds;
      is = subst motive (sym f.1) (λ run. inl h.touched) r.does.run;
    }

at-once :
    (acting : List Entry) (from : Bus) (settling : Entry) (rest : List Entry) → All IsDone acting →
    All (λ (e : Entry). TakesNoTurn e.command) acting →
    LeadsOn (running from) (acting ++ settling ∷ rest) → AtOnce (running from) acting settling.before
at-once [] from settling rest done still leads =
    subst (AtOnce (running from) []) (sym leads.0) (record {
      events = [];
      run = refl;
      no_turn = refl;
      touches = λ set h. absurd (none-in (ResetsOneOf set) h);
    })
at-once (e ∷ acting) from settling rest done still leads =
    let d : IsDone e = done 0 e (omega arith) in
    let r : RunsOn e = runs-on e d (λ says. late from e.command e.after e.text says
    (subst (λ (s : Stage). DoesAtStage s e.command (Ok (e.after, e.text))) leads.0 d.follows)) in
    let next : AtOnce (running r.after) acting settling.before =
    at-once acting r.after settling rest (λ i x inside. done (suc i) x (omega (arith, inside))) (λ i x inside. still (suc i) x (omega (arith, inside)))
    (subst (λ (s : Stage). LeadsOn s (acting ++ settling ∷ rest)) r.is leads.1) in
    let j = joined r.does.events next.events (world_of e.before) r.after.world (world_of settling.before) r.does.run next.run in
    subst (λ (s : Stage). AtOnce s (e ∷ acting) settling.before) leads.0 (record {
      events = r.does.events ++ next.events;
      run = j.run;
      no_turn = no-turns r.does.events next.events (r.does.at_once (still 0 e (omega arith))) next.no_turn;
      touches = λ set h. elim (in-first-or-rest (ResetsOneOf set) e acting h) [
        | inl one ↦
            let t = first-touches e r set one in
            record { node = t.node; holds = t.holds; is = j.by_first t.node t.is }
        | inr more ↦
            let t = next.touches set more in
            record { node = t.node; holds = t.holds; is = j.by_next t.node t.is }
      ];
    })

-- ---- since power-on

-- the world of a stage comes of power-on without a turn
record PowersOn (stage : Stage) : Type 0 where
  start : CableWorld
  power_on : IsPowerOnWorld start
  events : List Event
  run : Runs events start (world_of stage)
  no_turn : turn_count events ≡ 0

just-on : (stage : Stage) → IsPowerOnWorld (world_of stage) → PowersOn stage
just-on stage is = record { start = world_of stage; power_on = is; events = []; run = refl; no_turn = refl }

not-left : (bus : Bus) (draft : Draft) → running bus ≡ declaring draft → ⊥
not-left bus draft e = absurd cc

not-a-node :
    (slowed many twice : Bool) (next : Draft) (bus : Bus) (text : List ℕ) →
    ◌≡◌ {A = StageAnswer} (Ok (running bus, text))
    (if slowed then Err Late else if many then Err TooManyNodes else if twice then Err Twice else Ok (declaring next, [])) → ⊥
not-a-node true many twice next bus text e = absurd cc
not-a-node false true twice next bus text e = absurd cc
not-a-node false false true next bus text e = absurd cc
not-a-node false false false next bus text e = not-left bus next (ap stage-in e)

not-declared :
    (o : Option Draft) (name : List ℕ) (node : TimeRanges → ℕ → PortNode) (bus : Bus) (text : List ℕ) →
    IsDeclared o name node (Ok (running bus, text)) → ⊥
not-declared None name node bus text e = absurd cc
not-declared (Some draft) name node bus text e =
    not-a-node draft.slowed (nat_lt 62 (length draft.names)) (is_declared draft.names name)
    (with_node draft name (node draft.times.ranges (length draft.names))) bus text e

not-delayed : (stage : Stage) (delay : ℕ) (bus : Bus) (text : List ℕ) →
    Delays stage delay (Ok (running bus, text)) → ⊥
not-delayed fresh delay bus text e = not-left bus _ (ap stage-in e)
not-delayed (declaring draft) delay bus text e = absurd cc
not-delayed (running old) delay bus text e = absurd cc

not-some-times :
    (draft : Draft) (takes : Bool) (r : Result ScriptTimes Kind) (bus : Bus) (text : List ℕ) →
    ◌≡◌ {A = StageAnswer} (Ok (running bus, text)) (if takes then with_times draft r else Err Late) → ⊥
not-some-times draft true (Ok times) bus text e = not-left bus _ (ap stage-in e)
not-some-times draft true (Err kind) bus text e = absurd cc
not-some-times draft false r bus text e = absurd cc

not-one-clock :
    (draft : Draft) (ppm : ℕ) (first : Option ℕ) (number : NodeNumber) (o : Option PortNode) (bus : Bus) (text : List ℕ) →
    ◌≡◌ {A = StageAnswer} (Ok (running bus, text)) (slows_node draft ppm first number o) → ⊥
not-one-clock draft ppm first number None bus text e = absurd cc
not-one-clock draft ppm first number (Some x) bus text e =
    go (is_even x.clock) (slow_ranges draft.delay draft.times.ranges x.state.timing (gap_of ppm)) e
  where
    go :
        (b : Bool) (judged : Result TimeRanges TooSlow) →
        ◌≡◌ {A = StageAnswer} (Ok (running bus, text)) (if b then with_clock draft number x (clock_said ppm first) judged else Err Twice) → ⊥
    go true (Ok ranges) f = not-left bus _ (ap stage-in f)
    go true (Err reason) f = absurd cc
    go false judged f = absurd cc

not-slowed :
    (o : Option Draft) (name : List ℕ) (ppm : ℕ) (first : Option ℕ) (bus : Bus) (text : List ℕ) →
    Slows o name ppm first (Ok (running bus, text)) → ⊥
not-slowed None name ppm first bus text e = absurd cc
not-slowed (Some draft) name ppm first bus text e = go (node_named draft.names name) e
  where
    go :
        (n : Option NodeNumber) → ◌≡◌ {A = StageAnswer} (Ok (running bus, text)) (slows_named draft ppm first n) → ⊥
    go None f = absurd cc
    go (Some number) f = not-one-clock draft ppm first number (slice_get draft.nodes number) bus text f

-- a declaration leaves no bus that runs
not-running :
    (stage : Stage) (c : Command) (bus : Bus) (text : List ℕ) → Declares c →
    DoesAtStage stage c (Ok (running bus, text)) → ⊥
not-running stage (command.Node name ports speed link contender force power gap gap_reset hold short long word len seed packed) bus text d f =
    not-declared (draft_of stage) name _ bus text f
not-running stage (command.Delay delay) bus text d f = not-delayed stage delay bus text f
not-running stage (command.Times standard nanoseconds) bus text d f = go (draft_of stage) f
  where
    go : (o : Option Draft) → SaysTimes o standard nanoseconds (Ok (running bus, text)) → ⊥
    go None e = absurd cc
    go (Some draft) e = not-some-times draft (takes_times draft) (standard_times standard draft.delay nanoseconds) bus text e
not-running stage (command.Clock name ppm first) bus text d f = not-slowed (draft_of stage) name ppm first bus text f
not-running stage c bus text d f = d

declared-on :
    (stage next : Stage) (c : Command) (text : List ℕ) → Declares c → IsSound next →
    DoesAtStage stage c (Ok (next, text)) → PowersOn next
declared-on stage fresh c text d h f =
    just-on fresh (draft-power first_draft (no-nodes 4 (omega arith) (omega arith)))
declared-on stage (declaring draft) c text d h f = just-on (declaring draft) (draft-power draft h)
declared-on stage (running bus) c text d h f = absurd (not-running stage c bus text d f)

-- so it is behind a command in which no turn passes
stays-on : (e : Entry) → IsDone e → TakesNoTurn e.command → PowersOn e.before → PowersOn e.after
stays-on e d still p = elim (declares-or-not e.command) [
  | inl says ↦ declared-on e.before e.after e.command e.text says d.left d.follows
  | inr not ↦
      let r : RunsOn e = runs-on e d not in
      let j = joined p.events r.does.events p.start (world_of e.before) r.after.world p.run r.does.run in
      subst PowersOn (sym r.is) (record {
        start = p.start;
        power_on = p.power_on;
        events = p.events ++ r.does.events;
        run = j.run;
        no_turn = no-turns p.events r.does.events p.no_turn (r.does.at_once still);
      })
]

powers-on :
    (acting : List Entry) (from : Stage) (settling : Entry) (rest : List Entry) → All IsDone acting →
    All (λ (e : Entry). TakesNoTurn e.command) acting → LeadsOn from (acting ++ settling ∷ rest) →
    PowersOn from → PowersOn settling.before
powers-on [] from settling rest done still leads p = subst PowersOn (sym leads.0) p
powers-on (e ∷ acting) from settling rest done still leads p =
    powers-on acting e.after settling rest (λ i x inside. done (suc i) x (omega (arith, inside))) (λ i x inside. still (suc i) x (omega (arith, inside)))
    leads.1 (stays-on e (done 0 e (omega arith)) (still 0 e (omega arith)) (subst PowersOn (sym leads.0) p))

-- ---- a report

-- a bus that was given the quiet turns just now
record IsGiven (e : Entry) : Type 0 where
  bus : Bus
  left : e.after ≡ running bus
  from : CableWorld
  reached : IsReached from
  given : bus.world ≡ turns_after (quiet_turns_of from) from

is-given : (e : Entry) → IsDone e → DoesReport e.command → IsGiven e
is-given e d reports = go e.command refl reports
  where
    follows : (c : Command) → e.command ≡ c → DoesAtStage e.before c (Ok (e.after, e.text))
    follows c same = subst (λ (x : Command). DoesAtStage e.before x
        (Ok (e.after, e.text))) same d.follows

    h : IsReachedBus (bus_of e.before)
    h = sound-bus e.before d.sound

    go : (c : Command) → e.command ≡ c → DoesReport c → IsGiven e
    go command.Settle same k =
        let f = follows command.Settle same in
        let a = by-answer (bus_of e.before) command.Settle e.after e.text f.0 f.1 f.2 in
        let r = reports-of (bus_of e.before) a.after a.text a.does in
        record { bus = a.after; left = a.next_is; from = world_of e.before; reached = h.reached; given = r.1 }
    go (command.Plan name) same k =
        let f = follows (command.Plan name) same in
        let a = by-answer (bus_of e.before) (command.Plan name) e.after e.text f.0 f.1 f.2 in
        let p : IsCarriedOut (bus_of e.before) name a.after a.text = plan-carried (bus_of e.before) name a.after a.text a.does in
        let c = p.carried in
        let packet : Act = config_of p.node (Some c.plan.root_id) (Some c.plan.gap) in
        record {
          bus = a.after;
          left = a.next_is;
          from = c.sent.world;
          reached =
              act-reached packet (world_of e.before) c.sent.world
              (plan-act c.shown c.is.bus c.plan c.planned p.node, c.sends.0, c.sends.1) h.reached;
          given = c.reports.1;
        }
    go c same k = absurd k

-- ---- the root

module _
    (components : ComponentsExist) (first-fresh : PowerOnIsFresh)
    (settled-fresh : ActsMakeFreshOnceSettled) (roots : FreshRootsSettle) where
  module _
      (settling : Entry) (d : IsDone settling) (settles : settling.command ≡ command.Settle)
      (root : NodeNumber) (set : NodeSet) (waits : OneNodeWaits (world_of settling.before) root set) where
    abbrev w : CableWorld
    w = world_of settling.before

    h : IsReachedBus (bus_of settling.before)
    h = sound-bus settling.before d.sound

    lawful : IsLawful w
    lawful = reached-lawful w h.reached

    there : root < length w.nodes
    there =
        let x = some-of (slice_get w.nodes root) _ waits.alone.waits in
        slice_get_within w.nodes root x.0 x.1

    there-too : root < length w.cabling
    there-too = omega (arith, there, lawful.well_formed.count)

    small : set < 2 ^ 63
    small =
        let other : HasComponent w.cabling root = components w.cabling root lawful.well_formed.cabling there-too in
        small-set set 63 (λ i inside.
        omega (arith, other.there i (waits.component.least other.set other.is.holds other.is.closed i inside), lawful.well_formed.cabling.few_nodes))

    no-loop : Loopless w.cabling root set
    no-loop =
        loopless w.cabling root set waits.no_loop.core lawful.well_formed.cabling there-too waits.component small
        waits.no_loop.is_core waits.no_loop.empty

    -- a fresh component comes to a tree from the root, which is printed
    is-root : IsFresh w set → IsRootOf root settling
    is-root is_fresh =
        let f = subst (λ (c : Command). DoesAtStage settling.before c
        (Ok (settling.after, settling.text))) settles d.follows in
        let b = by-answer (bus_of settling.before) command.Settle settling.after settling.text f.0 f.1 f.2 in
        let r : Reports (bus_of settling.before) (Ok (b.after, b.text)) = reports-of (bus_of settling.before) b.after b.text b.does in
        let quiet : ℕ = quiet_turns_of w in
        let same : b.after.world ≡ quiet_after no_holds quiet w = r.1 ∙ sym (plain-quiet quiet w) in
        let t = roots no_holds w quiet root set root (reached-comes w h.reached) is_fresh
        (record { component = waits.component; no_loop = waits.no_loop; alone = waits.alone; enough = reached-enough w root h.reached })
        (turns-enough w) in
        let moved : (t : Tree) × IsTree b.after.world set root t =
        (t.0, subst (λ (z : CableWorld). IsTree z set root t.0) (sym same) t.1) in
        let cables = ap (λ (z : CableWorld). z.cabling) same ∙ after-cabling no_holds quiet w in
        let part : Any (IsTreeFrom w.cabling root root) r.0.parts =
        found w.cabling b.after.world cables root set root waits.component no-loop there-too (IsReached w) ∣ h.reached ∣₁ (λ k. moved) r.0.parts r.2.parts in
        let named = subst (λ (ns : Names). IsReportText ns b.after.notes.reports r.0 b.text) (sym (ap (λ (n : Notes). n.names) r.3)) r.4 in
        record {
          after = b.after;
          after_is = b.next_is;
          printed =
              subst (PrintsTree w.cabling root root b.after) (sym b.text_is)
              (prints-tree w.cabling root root b.after r.0 b.text [] b.after.notes.reports (ap (λ (n : Notes). n.report) r.3) part named);
        }

    from-power-on : PowersOn settling.before → IsRootOf root settling
    from-power-on p =
        is-root (first-fresh p.start w p.events root set p.power_on (record { run = p.run; no_turn = p.no_turn }) there waits.component)

    since-report :
        (e : Entry) (g : IsGiven e) (acting : List Entry) → AtOnce (running g.bus) acting settling.before →
        Any (ResetsOneOf set) acting → IsRootOf root settling
    since-report e g acting o any =
        let quiet : ℕ = quiet_turns_of g.from in
        let same : g.bus.world ≡ quiet_after no_holds quiet g.from = g.given ∙ sym (plain-quiet quiet g.from) in
        let motive : CableWorld → Type 0 = λ z. (run : Runs o.events z w) × IsTouched set z w o.events run in
        let moved = subst motive same (o.run, o.touches set any) in
        is-root (settled-fresh no_holds g.from w quiet o.events (record { run = moved.0; no_turn = o.no_turn }) root moved.1.node set
        (reached-comes g.from g.reached) (turns-enough g.from) waits.component moved.1.holds moved.1.is)

  module _ (trees : NoListHasTwoTrees) (keeps : ActKeepsNodes) where
    pub each-waiting : EachWaitingNodeBecomesRoot
    each-waiting bytes run x before acting settling root set now reset waits = elim reset [
      | power_on none ↦
          let all : All IsDone ([] ++ (acting ++ (settling ∷ now.rest))) = subst (λ b. All IsDone (b ++ (acting ++ (settling ∷ now.rest)))) none all-done in
          let leads : LeadsOn fresh ([] ++ (acting ++ (settling ∷ now.rest))) = subst (λ b. LeadsOn fresh (b ++ (acting ++ (settling ∷ now.rest)))) none all-lead in
          from-power-on settling (at-split IsDone acting now.rest settling all) now.settles root set waits
          (powers-on acting fresh settling now.rest (front-split IsDone acting (settling ∷ now.rest) all) now.at_once leads
          (just-on fresh (draft-power first_draft (no-nodes 4 (omega arith) (omega arith)))))
      | report front e last reports any ↦
          let behind : List Entry = acting ++ (settling ∷ now.rest) in
          let split : before ++ behind ≡ front ++ (e ∷ behind) = ap (λ b. b ++ behind) last ∙ append_assoc front (e ∷ []) behind in
          let all : All IsDone (front ++ (e ∷ behind)) = subst (All IsDone) split all-done in
          let leads : LeadsOn fresh (front ++ (e ∷ behind)) = subst (LeadsOn fresh) split all-lead in
          let rest : All IsDone behind = behind-split IsDone front behind e all in
          let g : IsGiven e = is-given e (at-split IsDone front behind e all) reports in
          let on : LeadsOn (running g.bus) behind = subst (λ (s : Stage). LeadsOn s behind) g.left (leads-behind fresh front behind e leads) in
          since-report settling (at-split IsDone acting now.rest settling rest) now.settles root set waits e g acting
          (at-once acting g.bus settling now.rest (front-split IsDone acting (settling ∷ now.rest) rest) now.at_once on) any
    ]
      where
        all-done : All IsDone (before ++ (acting ++ (settling ∷ now.rest)))
        all-done = subst (All IsDone) now.split (each-done trees keeps bytes run x).each

        all-lead : LeadsOn fresh (before ++ (acting ++ (settling ∷ now.rest)))
        all-lead = subst (LeadsOn fresh) now.split (leads-on bytes run x)

-- Between two lines of a script each node has a name, and no more turns are done than a script may have.
use Rattle.std.proofs.Common.{◌≡◌, ℕ, ◌+◌, ◌≤◌, ◌==◌, Bool, true, false, List, [], ◌∷◌, Option, Some, None, length, refl, sym, subst, ◌∙◌, ap, arith}
use Rattle.std.specs.Prelude.{All, Result, Ok, Err, IfOk, IfSome, MatchBool, nat_lt, slice_get, if◌then◌else◌}
use Rattle.std.proofs.lemmas.Bool.Decides.{nat_tests}
use Rattle.std.proofs.lemmas.List.Elements.{All-nil, All-cons, All-head, All-tail, All-push}
use Rattle.topology_stack.specs.Name.{IsName}
use Rattle.topology_stack.specs.OneAnswer.{NoListHasTwoTrees}
use Rattle.self_id.specs.declared.standard.Standard.{Standard}
use Rattle.port_state.specs.Clock.{Clock, is_even}
use Rattle.port_state.specs.Machine.{PortNode}
use Rattle.port_state.specs.declared.ranges.TimeRanges.{TimeRanges}
use Rattle.cable_world.specs.World.{CableWorld, NodeNumber}
use Rattle.cable_world.specs.Turn.{turns_after}
use Rattle.cable_world.specs.Run.{IsReached}
use Rattle.cable_world.specs.declared.act.Act.{Act}
use Rattle.cable_world.specs.Events.{Event, acts, holds, turns, Runs, turn_count}
use Rattle.cable_world.specs.Unchanged.{ActKeepsNodes}
use Rattle.cable_world.proofs.Lemmas.{act-keeps, act-reached}
use Rattle.settle.specs.Report.{quiet_turns_of}
use Rattle.settle.proofs.Lemmas.{same-quiet}
use Rattle.script_lines.specs.declared.kind.Kind.{Kind}
use Rattle.script_lines.specs.declared.kind.Kind.TheVariants as kind
use Rattle.script_lines.specs.declared.clock.TooSlow.{TooSlow}
use Rattle.script_lines.specs.declared.times.ScriptTimes.{ScriptTimes}
use Rattle.script_lines.specs.declared.command.Command.{Command}
use Rattle.script_lines.specs.declared.command.Command.TheVariants.{Node, Turn, Settle, Plan, Delay, Times}
use Rattle.script_lines.specs.declared.command.Command.TheVariants as command
use Rattle.script_lines.specs.Name.{NamesAreTested}
use Rattle.script_lines.specs.Line.{ReadsLine}
use Rattle.script_lines.specs.Times.{standard_times}
use Rattle.script_told.specs.Bus.{Bus, ReportedTree, node_named, tree_with, values_at, is_declared}
use Rattle.script_told.specs.Step.{LineAnswer, AtNamedNode, AtTree, AtManager, Settled, Within, Reports, DoesSettle, Plans, Does, id_of, config_of}
use Rattle.script_told.specs.Script.{Draft, Stage, fresh, declaring, running, StageAnswer, bus_of, ranges_of, draft_with, draft_of, with_node, with_times, with_clock, slows_node, slows_named, takes_times, Declares, Delays, SaysTimes, Slows, onwards, DoesOnBus, script_lines}
use Rattle.script_told.specs.Run.{Entry, ScriptRun, done, stopped, last_run, Proceeds, TakesLine, RunsFrom, IsRun}
use Rattle.script_told.specs.ScriptEvents.{TakesNoTurn, RunsOn}
use Rattle.script_told.proofs.Lemmas.{after-turns, IsDone, each-done, sound-bus, plan-act, plan-carried, runs-on, stage-in}
use Rattle.trace_laws.proofs.Said.{IsSaid, said-line}

-- what is known of a bus
pub record IsKnown (bus : Bus) : Type 0 where
  pub names : All IsName bus.notes.names
  pub turns : bus.world.turns ≤ 2000000

-- ---- turns

within : (n : ℕ) → nat_lt 2000000 n ≡ false → n ≤ 2000000
within n e = grind (arith, nat_tests)

-- events without a turn
no-turns : (events : List Event) (w v : CableWorld) → Runs events w v → turn_count events ≡ 0 →
    v.turns ≡ w.turns
no-turns [] w v run none = ap (λ (u : CableWorld). u.turns) run
no-turns (acts a ∷ events) w v run none =
    no-turns events run.0 v run.2 none ∙ (act-keeps a w run.0 run.1.2).turns
no-turns (holds end n ∷ events) w v run none =
    no-turns events run.0 v run.2 none ∙ ap (λ (u : CableWorld). u.turns) run.1.1
no-turns (turns ∷ events) w v run none = absurd (omega (arith, none))

-- an answer that is no fault comes of turns within the limit
pub within-ok :
    (bus : Bus) (n : ℕ) (Comes : LineAnswer → Type 0) (after : Bus) (text : List ℕ) →
    Within bus n Comes (Ok (after, text)) → (bus.world.turns + n ≤ 2000000) × Comes (Ok (after, text))
within-ok bus n Comes after text x = go (nat_lt 2000000 (bus.world.turns + n)) refl x
  where
    go : (b : Bool) → nat_lt 2000000 (bus.world.turns + n) ≡ b →
        MatchBool b (◌≡◌ {A = LineAnswer} (Ok (after, text)) (Err kind.TooManyTurns)) (Comes (Ok (after, text))) →
        (bus.world.turns + n ≤ 2000000) × Comes (Ok (after, text))
    go true e x = absurd cc
    go false e x = (within _ e, x)

-- the world that an answer leaves
abbrev world-in : LineAnswer → Bus → CableWorld
world-in (Ok (after, text)) bus = after.world
world-in (Err kind) bus = bus.world

turned : (bus : Bus) (n : ℕ) (after : Bus) (text : List ℕ) → Does bus (Turn n) (Ok (after, text)) →
    after.world.turns ≤ 2000000
turned bus n after text x =
    let h = within-ok bus n (λ (r : LineAnswer). r ≡ Ok (record bus { world = turns_after n bus.world }, [])) after text x in
    let same : after.world ≡ turns_after n bus.world = ap (λ (r : LineAnswer). world-in r bus) h.1 in
    omega (arith, h.0, ap (λ (u : CableWorld). u.turns) same, (after-turns n bus.world).turns)

settled : (bus after : Bus) (text : List ℕ) → DoesSettle bus (Ok (after, text)) →
    after.world.turns ≤ 2000000
settled bus after text x =
    let quiet : ℕ = quiet_turns_of bus.world in
    let h = within-ok bus quiet (Reports bus) after text x in
    omega (arith, h.0, ap (λ (u : CableWorld). u.turns) h.1.1, (after-turns quiet bus.world).turns)

-- ---- a plan

module _ (bus : Bus) (name : List ℕ) where
  abbrev IsWithin : LineAnswer → Type 0
  IsWithin (Ok (after, text)) = bus.world.turns + quiet_turns_of bus.world ≤ 2000000
  IsWithin (Err kind) = Unit {0}

  fault : (kind : Kind) (r : LineAnswer) → r ≡ Err kind → IsWithin r
  fault kind r e = subst IsWithin (sym e) tt

  at-node : (o : Option NodeNumber) (Comes : NodeNumber → LineAnswer → Type 0) →
      ((k : NodeNumber) (r : LineAnswer) → Comes k r → IsWithin r) → (r : LineAnswer) → AtNamedNode o Comes r → IsWithin r
  at-node None Comes some r x = fault kind.NoNode r x
  at-node (Some k) Comes some r x = some k r x

  at-tree : (o : Option ReportedTree) (Comes : ReportedTree → LineAnswer → Type 0) →
      ((t : ReportedTree) (r : LineAnswer) → Comes t r → IsWithin r) → (r : LineAnswer) → AtTree o Comes r → IsWithin r
  at-tree None Comes some r x = fault kind.NotSettled r x
  at-tree (Some t) Comes some r x = some t r x

  at-manager : (o : Option NodeNumber) (Comes : NodeNumber → LineAnswer → Type 0) →
      ((k : NodeNumber) (r : LineAnswer) → Comes k r → IsWithin r) → (r : LineAnswer) → AtManager o Comes r → IsWithin r
  at-manager None Comes some r x = fault kind.NoManager r x
  at-manager (Some k) Comes some r x = some k r x

  as-manager : (b : Bool) (Comes : LineAnswer → Type 0) →
      ((r : LineAnswer) → Comes r → IsWithin r) → (r : LineAnswer) → MatchBool b (Comes r) (r ≡ Err kind.NotManager) → IsWithin r
  as-manager true Comes some r x = some r x
  as-manager false Comes some r x = fault kind.NotManager r x

  in-turns : (Comes : LineAnswer → Type 0) (r : LineAnswer) →
      Within bus (quiet_turns_of bus.world) Comes r → IsWithin r
  in-turns Comes r x = go (nat_lt 2000000 (bus.world.turns + quiet_turns_of bus.world)) refl x
    where
      so : (s : LineAnswer) → bus.world.turns + quiet_turns_of bus.world ≤ 2000000 → IsWithin s
      so (Ok (after, text)) few = few
      so (Err kind) few = tt

      go : (b : Bool) → nat_lt 2000000 (bus.world.turns + quiet_turns_of bus.world) ≡ b →
          MatchBool b (r ≡ Err kind.TooManyTurns) (Comes r) → IsWithin r
      go true e x = fault kind.TooManyTurns r x
      go false e x = so r (within _ e)

  plan-within : (r : LineAnswer) → Does bus (Plan name) r → IsWithin r
  plan-within r x =
      at-node (node_named bus.notes.names name) _ (λ node.
      at-tree (tree_with node bus.notes) _ (λ tree r y.
      at-manager y.0 _ (λ manager r z.
      as-manager ((values_at manager bus).bus_manager_id == id_of tree node) _ (in-turns (Settled bus node (Plans bus name node))) r z) r y.2)) r x

-- the quiet turns of the plan of a bus are those that it was asked for
planned :
    (bus : Bus) (name : List ℕ) (after : Bus) (text : List ℕ) → IsReached bus.world →
    Does bus (Plan name) (Ok (after, text)) → after.world.turns ≤ 2000000
planned bus name after text r x =
    let few : bus.world.turns + quiet_turns_of bus.world ≤ 2000000 = plan-within bus name (Ok (after, text)) x in
    let c = plan-carried bus name after text x in
    let sent : CableWorld = c.carried.sent.world in
    let a : Act = config_of c.node (Some c.carried.plan.root_id) (Some c.carried.plan.gap) in
    let is = plan-act c.carried.shown c.carried.is.bus c.carried.plan c.carried.planned c.node in
    let led = c.carried.sends.1 in
    let s : IsReached sent = act-reached a bus.world sent (is, c.carried.sends.0, led) r in
    let same : quiet_turns_of sent ≡ quiet_turns_of bus.world = same-quiet a bus.world sent ∣ r ∣₁ ∣ s ∣₁ led in
    omega (
      arith,
      few,
      same,
      (act-keeps a bus.world sent led).turns,
      ap (λ (u : CableWorld). u.turns) c.carried.reports.1,
      (after-turns (quiet_turns_of sent) sent).turns,
    )

-- ---- a command

-- of a bus that runs
on-bus :
    (stage : Stage) (c : Command) (after : Stage) (text : List ℕ) → DoesOnBus stage c (Ok (after, text)) →
    (bus : Bus) × (printed : List ℕ) × (after ≡ running bus) × Does (bus_of stage) c (Ok (bus, printed))
on-bus stage c after text (Ok (bus, t), d, e) = (bus, t, ap stage-in e, d)
on-bus stage c after text (Err k, d, e) = absurd (no k e)
  where
    no : (k : Kind) → Ok (after, text) ≡ onwards (Err k) → ⊥
    no k g = absurd cc

-- the turns of a command are within the limit
pub turn-within : (stage : Stage) (n : ℕ) (after : Stage) (text : List ℕ) →
    DoesOnBus stage (Turn n) (Ok (after, text)) → (bus_of stage).world.turns + n ≤ 2000000
turn-within stage n after text x =
    let o = on-bus stage (Turn n) after text x in
    (within-ok (bus_of stage) n (λ (r : LineAnswer). r ≡ Ok (record (bus_of stage) { world = turns_after n (bus_of stage).world }, [])) o.0 o.1 o.3).0

pub settle-within : (stage after : Stage) (text : List ℕ) →
    DoesOnBus stage Settle (Ok (after, text)) → (bus_of stage).world.turns + quiet_turns_of (bus_of stage).world ≤ 2000000
settle-within stage after text x =
    let o = on-bus stage Settle after text x in
    (within-ok (bus_of stage) (quiet_turns_of (bus_of stage).world) (Reports (bus_of stage)) o.0 o.1 o.3).0

pub plan-turns : (stage : Stage) (name : List ℕ) (after : Stage) (text : List ℕ) →
    DoesOnBus stage (Plan name) (Ok (after, text)) → (bus_of stage).world.turns + quiet_turns_of (bus_of stage).world ≤ 2000000
plan-turns stage name after text x =
    let o = on-bus stage (Plan name) after text x in
    plan-within (bus_of stage) name (Ok (o.0, o.1)) o.3

abbrev LeavesKnown : StageAnswer → Type 0
LeavesKnown (Ok (stage, text)) = IsKnown (bus_of stage)
LeavesKnown (Err kind) = Unit {0}

known : (x : StageAnswer) → LeavesKnown x → (r : StageAnswer) → r ≡ x → LeavesKnown r
known x h r e = subst LeavesKnown (sym e) h

-- nodes with names
abbrev AreNamed : Option Draft → Type 0
AreNamed o = IfSome o (λ draft. All IsName draft.names)

named-draft : (stage : Stage) → IsKnown (bus_of stage) → AreNamed (draft_of stage)
named-draft fresh h = All-nil IsName
named-draft (declaring draft) h = h.names
named-draft (running bus) h = tt

draft-known : (draft : Draft) → All IsName draft.names → IsKnown (bus_of (declaring draft))
draft-known draft h = record { names = h; turns = omega arith }

pub fresh-known : IsKnown (bus_of fresh)
fresh-known = record { names = All-nil IsName; turns = omega arith }

declares :
    (o : Option Draft) (name : List ℕ) (node : TimeRanges → ℕ → PortNode) → IsName name → AreNamed o →
    (r : StageAnswer) → Declares o name node r → LeavesKnown r
declares None name node is h r x = known (Err kind.Late) tt r x
declares (Some draft) name node is h r x =
    go draft.slowed (nat_lt 62 (length draft.names)) (is_declared draft.names name) r x
  where
    new : PortNode
    new = node draft.times.ranges (length draft.names)

    go : (slowed full twice : Bool) (r : StageAnswer) →
        r ≡ (if slowed then Err kind.Late
        else if full then Err kind.TooManyNodes
        else if twice then Err kind.Twice else Ok (declaring (with_node draft name new), [])) →
        LeavesKnown r
    go true full twice r y = known (Err kind.Late) tt r y
    go false true twice r y = known (Err kind.TooManyNodes) tt r y
    go false false true r y = known (Err kind.Twice) tt r y
    go false false false r y =
        known (Ok (declaring (with_node draft name new), []))
        (draft-known (with_node draft name new) (All-push IsName draft.names name h is)) r y

delays : (stage : Stage) (delay : ℕ) (r : StageAnswer) → Delays stage delay r → LeavesKnown r
delays fresh delay r x =
    known (Ok (declaring (draft_with delay), [])) (draft-known (draft_with delay) (All-nil IsName)) r x
delays (declaring draft) delay r x = known (Err kind.Late) tt r x
delays (running bus) delay r x = known (Err kind.Late) tt r x

says : (o : Option Draft) (standard : Standard) (ns : ℕ) → AreNamed o → (r : StageAnswer) →
    SaysTimes o standard ns r → LeavesKnown r
says None standard ns h r x = known (Err kind.Late) tt r x
says (Some draft) standard ns h r x = go (takes_times draft) (standard_times standard draft.delay ns) r x
  where
    go : (b : Bool) (times : Result ScriptTimes Kind) (r : StageAnswer) →
        r ≡ (if b then with_times draft times else Err kind.Late) → LeavesKnown r
    go true (Ok times) r y =
        known (Ok (declaring (record draft { times = times }), [])) (draft-known (record draft { times = times }) h) r y
    go true (Err k) r y = known (Err k) tt r y
    go false times r y = known (Err kind.Late) tt r y

slows : (o : Option Draft) (name : List ℕ) (ppm : ℕ) (first : Option ℕ) → AreNamed o →
    (r : StageAnswer) → Slows o name ppm first r → LeavesKnown r
slows None name ppm first h r x = known (Err kind.Late) tt r x
slows (Some draft) name ppm first h r x =
    known (slows_named draft ppm first (node_named draft.names name)) (of-name (node_named draft.names name)) r x
  where
    with-clock : (number : NodeNumber) (x : PortNode) (c : Clock) (times : Result TimeRanges TooSlow) →
        LeavesKnown (with_clock draft number x c times)
    with-clock number x c (Ok ranges) = record { names = h; turns = omega arith }
    with-clock number x c (Err reason) = tt

    of-test : (number : NodeNumber) (x : PortNode) (b : Bool) (c : Clock) (times : Result TimeRanges TooSlow) →
        LeavesKnown (if b then with_clock draft number x c times else Err kind.Twice)
    of-test number x true c times = with-clock number x c times
    of-test number x false c times = tt

    of-node : (number : NodeNumber) (o : Option PortNode) → LeavesKnown (slows_node draft ppm first number o)
    of-node number None = tt
    of-node number (Some x) = of-test number x (is_even x.clock) _ _

    of-name : (o : Option NodeNumber) → LeavesKnown (slows_named draft ppm first o)
    of-name None = tt
    of-name (Some number) = of-node number (slice_get draft.nodes number)

-- of the bus that runs: names stay, and turns are within the limit
runs :
    (e : Entry) → IsKnown (bus_of e.before) → RunsOn e → (bus_of e.after).world.turns ≤ 2000000 →
    IsKnown (bus_of e.after)
runs e k r few = record {
  names = subst (All IsName) (sym (ap (λ (s : Stage). (bus_of s).notes.names) r.is ∙ r.does.names)) k.names;
  turns = few;
}

at-once : (e : Entry) → IsKnown (bus_of e.before) → RunsOn e → TakesNoTurn e.command → IsKnown (bus_of e.after)
at-once e k r quiet =
    let same : (bus_of e.after).world.turns ≡ (bus_of e.before).world.turns =
    ap (λ (s : Stage). (bus_of s).world.turns) r.is
    ∙ no-turns r.does.events (bus_of e.before).world r.after.world r.does.run (r.does.at_once quiet) in
    runs e k r (omega (arith, same, k.turns))

-- after the last bus that a command leaves
after-is : (after : Stage) (bus : Bus) → after ≡ running bus → bus.world.turns ≤ 2000000 →
    (bus_of after).world.turns ≤ 2000000
after-is after bus e few = omega (arith, ap (λ (s : Stage). (bus_of s).world.turns) e, few)

leaves :
    (number : ℕ) (before : Stage) (command : Command) (after : Stage) (text : List ℕ) →
    IsDone (done number before command after text) → IsSaid command → IsKnown (bus_of before) →
    IsKnown (bus_of after)
leaves number before (Node name ports speed link contender force power gap gap_reset hold short long word len seed packed) after text d s k =
    declares (draft_of before) name _ s (named-draft before k) (Ok (after, text)) d.follows
leaves number before (Delay delay) after text d s k = delays before delay (Ok (after, text)) d.follows
leaves number before (Times standard ns) after text d s k =
    says (draft_of before) standard ns (named-draft before k) (Ok (after, text)) d.follows
leaves number before (command.Clock name ppm first) after text d s k =
    slows (draft_of before) name ppm first (named-draft before k) (Ok (after, text)) d.follows
leaves number before (Turn n) after text d s k =
    let o = on-bus before (Turn n) after text d.follows in
    runs (done number before (Turn n) after text) k (runs-on (done number before (Turn n) after text) d (λ x. x))
    (after-is after o.0 o.2 (turned (bus_of before) n o.0 o.1 o.3))
leaves number before Settle after text d s k =
    let o = on-bus before Settle after text d.follows in
    runs (done number before Settle after text) k (runs-on (done number before Settle after text) d (λ x. x))
    (after-is after o.0 o.2 (settled (bus_of before) o.0 o.1 o.3))
leaves number before (Plan name) after text d s k =
    let o = on-bus before (Plan name) after text d.follows in
    runs (done number before (Plan name) after text) k (runs-on (done number before (Plan name) after text) d (λ x. x))
    (after-is after o.0 o.2 (planned (bus_of before) name o.0 o.1 (sound-bus before d.sound).reached o.3))
leaves number before c after text d s k =
    at-once (done number before c after text) k (runs-on (done number before c after text) d (λ x. x)) tt

-- ---- the commands of a run

pub record IsKnownEntry (e : Entry) : Type 0 where
  pub done : IsDone e
  pub said : IsSaid e.command
  pub before : IsKnown (bus_of e.before)
  pub after : IsKnown (bus_of e.after)

-- what is known of a run: of each of its commands, and of the bus that is left at its end
pub record IsKnownRun (run : ScriptRun) : Type 0 where
  pub each : All IsKnownEntry run.entries
  pub end : IfOk run.end IsKnown

module _ (tested : NamesAreTested) where
  abbrev KnownFrom : (Stage → ScriptRun → Type 0) → Type 0
  KnownFrom Rest =
      (stage : Stage) (run : ScriptRun) → IsKnown (bus_of stage) → Rest stage run → All IsDone run.entries →
      IsKnownRun run

  none : (number : ℕ) (k : Kind) (run : ScriptRun) → run ≡ stopped number k → IsKnownRun run
  none number k run e = subst IsKnownRun (sym e) (record { each = All-nil IsKnownEntry; end = tt })

  goes :
      (number : ℕ) (Rest : Stage → ScriptRun → Type 0) (stage : Stage) (command : Command) (r : StageAnswer) (run : ScriptRun) →
      KnownFrom Rest → IsKnown (bus_of stage) → IsSaid command → Proceeds number Rest stage command r run →
      All IsDone run.entries → IsKnownRun run
  goes number Rest stage command (Ok (next, text)) run rest k s x d =
      let e : Entry = done number stage command next text in
      let all : All IsDone (e ∷ x.0.entries) = subst (λ (r : ScriptRun). All IsDone r.entries) x.2 d in
      let first : IsDone e = All-head IsDone e x.0.entries all in
      let left : IsKnown (bus_of next) = leaves number stage command next text first s k in
      let more : IsKnownRun x.0 = rest next x.0 left x.1 (All-tail IsDone e x.0.entries all) in
      subst IsKnownRun (sym x.2) (record {
        each = All-cons IsKnownEntry e x.0.entries (record { done = first; said = s; before = k; after = left }) more.each;
        end = more.end;
      })
  goes number Rest stage command (Err fault) run rest k s x d = none number fault run x

  takes :
      (number : ℕ) (Rest : Stage → ScriptRun → Type 0) (stage : Stage) (line : List ℕ) (reading : Result (Option Command) Kind)
      (run : ScriptRun) → KnownFrom Rest → IsKnown (bus_of stage) → ReadsLine (ranges_of stage) line reading →
      TakesLine number Rest stage reading run → All IsDone run.entries → IsKnownRun run
  takes number Rest stage line (Ok None) run rest k reads x d = rest stage run k x d
  takes number Rest stage line (Ok (Some command)) run rest k reads x d =
      goes number Rest stage command x.0 run rest k (said-line tested (ranges_of stage) line command reads) x.2 d
  takes number Rest stage line (Err fault) run rest k reads x d = none number fault run x

  ends : (number : ℕ) (stage : Stage) (r : LineAnswer) → IsKnown (bus_of stage) →
      All IsDone (last_run number stage r).entries → IsKnownRun (last_run number stage r)
  ends number stage (Ok (bus, text)) k d =
      let e : Entry = done number stage Settle (running bus) text in
      let first : IsDone e = All-head IsDone e [] d in
      let left : IsKnown bus = leaves number stage Settle (running bus) text first tt k in
      record {
        each = All-cons IsKnownEntry e [] (record { done = first; said = tt; before = k; after = left }) (All-nil IsKnownEntry);
        end = left;
      }
  ends number stage (Err fault) k d = record { each = All-nil IsKnownEntry; end = tt }

  from-each : (number : ℕ) (lines : List (List ℕ)) → KnownFrom (RunsFrom number lines)
  from-each number [] stage run k x d =
      subst IsKnownRun (sym x.2)
      (ends number stage x.0 k (subst (λ (r : ScriptRun). All IsDone r.entries) x.2 d))
  from-each number (line ∷ lines) stage run k x d =
      takes number (RunsFrom (number + 1) lines) stage line x.0 run (from-each (number + 1) lines) k x.1 x.2 d

  pub known-run : NoListHasTwoTrees → ActKeepsNodes → (bytes : List ℕ) (run : ScriptRun) → IsRun bytes run →
      IsKnownRun run
  known-run trees keeps bytes run x =
      from-each 1 (script_lines bytes) fresh run fresh-known x (each-done trees keeps bytes run x).each

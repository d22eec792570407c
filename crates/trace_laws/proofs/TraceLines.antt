-- The trace of a script is lines of events.
use Rattle.std.proofs.Common.{◌≡◌, ℕ, zero, suc, ◌+◌, ◌<◌, ◌≤◌, List, [], ◌∷◌, inl, inr, Option, Some, None, length, map, slice_get, refl, sym, subst, ◌∙◌, ap, arith}
use Rattle.std.specs.Prelude.{All, unwrap_or}
use Rattle.std.specs.Option.{ForSome}
use Rattle.std.proofs.lemmas.List.Elements.{All-head, All-tail, All-get_or}
use Rattle.std.proofs.lemmas.Option.{slice_get-get_or, slice_get_within, slice_get_cases}
use Rattle.topology_stack.specs.Name.{IsName}
use Rattle.topology_stack.specs.OneAnswer.{NoListHasTwoTrees}
use Rattle.port_state.specs.declared.view.View.{View}
use Rattle.port_state.specs.Machine.{PortNode}
use Rattle.cable_world.specs.declared.act.Act.{Act}
use Rattle.cable_world.specs.World.{CableWorld}
use Rattle.cable_world.specs.Act.{Acted}
use Rattle.cable_world.specs.Run.{IsReached}
use Rattle.cable_world.specs.Turn.{turn}
use Rattle.cable_world.specs.Events.{Event, acts, holds, turns, Runs, turn_count}
use Rattle.cable_world.specs.Unchanged.{ActKeepsNodes}
use Rattle.cable_world.proofs.Lemmas.{act-keeps, act-reached, hold-reached, turn-reached, turns-counted, reached-lawful, nodes-after, some-same}
use Rattle.settle.specs.Report.{quiet_turns_of}
use Rattle.settle.proofs.Lemmas.{same-quiet}
use Rattle.script_lines.specs.Name.{NamesAreTested}
use Rattle.script_lines.specs.declared.command.Command.{Command}
use Rattle.script_lines.specs.declared.command.Command.TheVariants.{Plug, Pull, Reset, Turn, Hold, Settle, Config, Plan}
use Rattle.script_text.specs.ReportText.{Names}
use Rattle.script_told.specs.Bus.{Bus}
use Rattle.script_told.specs.Step.{config_of}
use Rattle.script_told.specs.Script.{Stage, fresh, declaring, running, bus_of}
use Rattle.script_told.specs.SomeAnswer.{IsReachedBus}
use Rattle.script_told.specs.Run.{Entry, done}
use Rattle.script_told.specs.ScriptEvents.{TakesNoTurn, RunsOn}
use Rattle.script_told.proofs.Lemmas.{sound-bus, plan-act, runs-on}
use Rattle.script_trace.specs.Event.{Seen}
use Rattle.script_trace.specs.Step.{lines_since, seen_before_turn, seen_before_act, node_before_act}
use Rattle.script_trace.specs.Voice.{Legend, legend_of, turns_told}
use Rattle.script_trace.specs.Trace.{command_line, act_trace, quiet_trace, TracesPlan, Traces, TracesAt, AllTrace, trace_voice}
use Rattle.trace_laws.specs.Traces.{TracesAreOfEvents}
use Rattle.trace_laws.proofs.Lines.{AreLines, none, both-lines, of-events}
use Rattle.trace_laws.proofs.CommandLines.{IsTold, told-lines}
use Rattle.trace_laws.proofs.NodeLines.{HasShortNumbers, AreNamed, since-lines}
use Rattle.trace_laws.proofs.Known.{IsKnownEntry, turn-within, settle-within, plan-turns, known-run}
use Rattle.trace_laws.proofs.Waits.{turn-waits, act-draws}

-- ---- what nodes show

below : (o : Option ℕ) (most : ℕ) → ForSome o (λ n. n ≤ most) → most < 4294967296 →
    unwrap_or o 0 < 4294967296
below None most h few = omega arith
below (Some n) most h few = omega (arith, h n refl, few)

-- numbers that a node of a reached world shows
short-numbers :
    (w : CableWorld) (k : ℕ) (before : View) (x : PortNode) → IsReached w → slice_get w.nodes k ≡ Some x →
    (before.draws < x.state.view.draws → x.state.view.wait < 4294967296) →
    HasShortNumbers before x.state.view
short-numbers w k before x r at waits =
    let b = ((reached-lawful w r).well_formed.nodes k x at).valid.bounded in
    record {
      ports = omega (arith, b.views, b.few_ports);
      parent = below x.state.view.parent 16 (λ p e. omega (arith, b.parent p e, b.few_ports)) (omega arith);
      id = below x.state.view.id 62 b.id (omega arith);
      wait = waits;
    }

named-at : (names : Names) → All IsName names → AreNamed names (length names)
named-at names all k less =
    subst (λ (o : Option (List ℕ)). IsName (unwrap_or o [])) (sym (slice_get-get_or names k [] less))
    (All-get_or IsName names k [] less all)

-- ---- turns

was-before : (nodes : List PortNode) (i : ℕ) (s : Seen) → slice_get (map seen_before_turn nodes) i ≡ Some s →
    (x : PortNode) × (slice_get nodes i ≡ Some x) × (s ≡ seen_before_turn x)
was-before [] i s at = absurd cc
was-before (x ∷ nodes) zero s at = (x, refl, some-same s (seen_before_turn x) (sym at))
was-before (x ∷ nodes) (suc i) s at = was-before nodes i s at

module _ (legend : Legend) (named : All IsName legend.names) where
  -- what happened up to a world
  since :
      (seen : List Seen) (w : CableWorld) → length legend.names ≡ length w.nodes → w.turns ≤ 2000000 →
      ((i : ℕ) (s : Seen) (x : PortNode) → slice_get seen i ≡ Some s → slice_get w.nodes i ≡ Some x →
      HasShortNumbers s.view x.state.view) →
      AreLines (lines_since legend.names seen w)
  since seen w count few each =
      since-lines legend.names seen w (subst (AreNamed legend.names) count (named-at legend.names named))
      (omega (arith, few)) each

  -- a turn
  in-turn : (w : CableWorld) → IsReached w → length legend.names ≡ length w.nodes →
      (turn w).turns ≤ 2000000 → AreLines (lines_since legend.names (map seen_before_turn w.nodes) (turn w))
  in-turn w r count few =
      let l = reached-lawful w r in
      since (map seen_before_turn w.nodes) (turn w) (count ∙ sym (nodes-after w l.well_formed.count)) few
      (λ i s y seen now.
      let x = was-before w.nodes i s seen in
      short-numbers (turn w) i s.view y (turn-reached w r) now (λ more.
      turn-waits w i x.0 y l x.1 now
      (subst (λ (u : Seen). u.view.draws < y.state.view.draws) x.2 more)))

  pub in-turns :
      (k : ℕ) (w : CableWorld) → IsReached w → length legend.names ≡ length w.nodes → w.turns + k ≤ 2000000 →
      AreLines (turns_told trace_voice legend k w)
  unfolding turns_told
  in-turns zero w r count few = none
  in-turns (suc k) w r count few =
      let counted = turns-counted w in
      both-lines (lines_since legend.names (map seen_before_turn w.nodes) (turn w))
      (turns_told trace_voice legend k (turn w))
      (in-turn w r count (omega (arith, counted, few)))
      (in-turns k (turn w) (turn-reached w r)
      (count ∙ sym (nodes-after w (reached-lawful w r).well_formed.count)) (omega (arith, counted, few)))

-- ---- acts

-- no node draws a coin where no turn passes
abbrev DrawsNone : CableWorld → CableWorld → Type 0
DrawsNone w v =
    (k : ℕ) (x y : PortNode) → slice_get w.nodes k ≡ Some x → slice_get v.nodes k ≡ Some y →
    y.state.view.draws ≤ x.state.view.draws

then-none :
    (w u v : CableWorld) → length u.nodes ≡ length w.nodes → DrawsNone w u → DrawsNone u v → DrawsNone w v
then-none w u v count first second k x y at now = elim (slice_get_cases u.nodes k).1 [
  | inl found ↦ omega (arith, first k x found.0 at found.2, second k found.0 y found.2 now)
  | inr lacks ↦ absurd (omega (arith, lacks.0, slice_get_within w.nodes k x at, count))
]

same-none : (w v : CableWorld) → v.nodes ≡ w.nodes → DrawsNone w v
same-none w v e k x y at now =
    let same : x ≡ y = some-same x y (sym at ∙ (ap (λ (l : List PortNode). slice_get l k) (sym e) ∙ now)) in
    omega (arith, ap (λ (n : PortNode). n.state.view.draws) same)

draw-none :
    (events : List Event) (w v : CableWorld) → Runs events w v → turn_count events ≡ 0 → IsReached w →
    DrawsNone w v
draw-none [] w v run still r = same-none w v (ap (λ (u : CableWorld). u.nodes) run)
draw-none (acts a ∷ events) w v run still r =
    then-none w run.0 v (act-keeps a w run.0 run.1.2).nodes
    (λ k x y at now. act-draws a w run.0 k x y run.1 (reached-lawful w r).well_formed at now)
    (draw-none events run.0 v run.2 still (act-reached a w run.0 run.1 r))
draw-none (holds end n ∷ events) w v run still r =
    let same : run.0.nodes ≡ w.nodes = ap (λ (u : CableWorld). u.nodes) run.1.1 in
    let held : IsReached run.0 = subst IsReached (sym run.1.1) (hold-reached end n w run.1.0 r) in
    then-none w run.0 v (ap length same) (same-none w run.0 same) (draw-none events run.0 v run.2 still held)
draw-none (turns ∷ events) w v run still r = absurd (omega (arith, still))

was-at :
    (w : CableWorld) (first i k : ℕ) (nodes : List PortNode) (s : Seen) → k ≡ first + i →
    slice_get (seen_before_act w first nodes) i ≡ Some s →
    (x : PortNode) × (slice_get nodes i ≡ Some x) × (s.view ≡ x.state.view)
was-at w first i k [] s is at = absurd cc
was-at w first zero k (x ∷ nodes) s is at =
    (x, refl, ap (λ (u : Seen). u.view) (some-same s (node_before_act w first x) (sym at)))
was-at w first (suc i) k (x ∷ nodes) s is at = was-at w (first + 1) i k nodes s (omega (arith, is)) at

-- the line of an act, and what it does
act-lines :
    (legend : Legend) (c : Command) (w v : CableWorld) → All IsName legend.names →
    length legend.names ≡ length v.nodes → IsTold c → IsReached v → DrawsNone w v → w.turns ≤ 2000000 →
    v.turns ≤ 2000000 → AreLines (act_trace trace_voice legend c w v)
act-lines legend c w v named count told r drawn few now =
    both-lines (command_line w.turns c) (lines_since legend.names (seen_before_act w 0 w.nodes) v)
    (told-lines w.turns (omega (arith, few)) c told)
    (since legend named (seen_before_act w 0 w.nodes) v count now
    (λ i s y seen at.
    let x = was-at w 0 i i w.nodes s (omega arith) seen in
    short-numbers v i s.view y r at (λ more.
    let fewer : y.state.view.draws ≤ x.0.state.view.draws = drawn i x.0 y x.1 at in
    absurd (omega (arith, fewer, more, ap (λ (u : View). u.draws) x.2)))))

-- ---- a command

-- a command that left a bus that runs
module _ (number : ℕ) (before : Stage) (c : Command) (after : Bus) (text : List ℕ) where
  abbrev entry : Entry
  entry = done number before c (running after) text

  abbrev bus : Bus
  bus = bus_of before

  abbrev legend : Legend
  legend = legend_of after.notes

  module _ (k : IsKnownEntry entry) where
    reached : IsReachedBus bus
    reached = sound-bus before k.done.sound

    left : IsReachedBus after
    left = k.done.left

    -- what is said of the events of the command is said of this bus
    same-bus : (r : RunsOn entry) → r.after ≡ after
    same-bus r = ap bus_of (sym r.is)

    -- an act: no turn passes
    of-act : IsTold c → TakesNoTurn c → RunsOn entry → AreLines (act_trace trace_voice legend c bus.world after.world)
    of-act told quiet r =
        let drawn : DrawsNone bus.world after.world = subst (λ (b : Bus). DrawsNone bus.world b.world) (same-bus r)
        (draw-none r.does.events bus.world r.after.world r.does.run (r.does.at_once quiet) reached.reached) in
        act-lines legend c bus.world after.world k.after.names left.named told left.reached drawn k.before.turns k.after.turns

    -- names stay
    named : RunsOn entry → length after.notes.names ≡ length bus.world.nodes
    named r = ap (λ (b : Bus). length b.notes.names) (sym (same-bus r)) ∙ ap length r.does.names ∙ reached.named

    of-turns : (n : ℕ) → RunsOn entry → bus.world.turns + n ≤ 2000000 →
        AreLines (turns_told trace_voice legend n bus.world)
    of-turns n r few = in-turns legend k.after.names n bus.world reached.reached (named r) few

    -- a plan: its packet, and the turns to settle
    of-plan :
        (name lines : List ℕ) → IsName name → RunsOn entry → bus.world.turns + quiet_turns_of bus.world ≤ 2000000 →
        TracesPlan trace_voice bus name after lines → AreLines lines
    of-plan name lines is r few t =
        let plan = t.carried.plan in
        let sent : CableWorld = t.carried.sent.world in
        let a : Act = config_of t.node (Some plan.root_id) (Some plan.gap) in
        let valid = plan-act t.carried.shown t.carried.is.bus plan t.carried.planned t.node in
        let led = t.carried.sends.1 in
        let did : Acted a bus.world sent = (valid, t.carried.sends.0, led) in
        let keeps = act-keeps a bus.world sent led in
        let s : IsReached sent = act-reached a bus.world sent did reached.reached in
        let quiet : quiet_turns_of sent ≡ quiet_turns_of bus.world =
        same-quiet a bus.world sent ∣ reached.reached ∣₁ ∣ s ∣₁ led in
        let count : length after.notes.names ≡ length sent.nodes = named r ∙ sym keeps.nodes in
        let drawn : DrawsNone bus.world sent =
        λ i x y at now. act-draws a bus.world sent i x y did (reached-lawful bus.world reached.reached).well_formed at now in
        let gap : plan.gap ≤ 63 = valid.bits.gap_bits plan.gap refl in
        subst AreLines (sym t.lines_are)
        (both-lines
        (act_trace trace_voice legend (Config name (Some plan.root_id) (Some plan.gap)) bus.world sent)
        (quiet_trace trace_voice legend sent)
        (act-lines legend (Config name (Some plan.root_id) (Some plan.gap)) bus.world sent k.after.names count
        (is, omega (arith, valid.bits.root_bits), omega (arith, gap)) s drawn k.before.turns (omega (arith, keeps.turns, k.before.turns)))
        (in-turns legend k.after.names (quiet_turns_of sent) sent s count (omega (arith, keeps.turns, quiet, few))))

nothing : (lines : List ℕ) → lines ≡ [] → AreLines lines
nothing lines e = subst AreLines (sym e) none

command-lines :
    (number : ℕ) (before : Stage) (c : Command) (after : Bus) (text lines : List ℕ) →
    IsKnownEntry (done number before c (running after) text) → Traces trace_voice (bus_of before) c after lines →
    AreLines lines
command-lines number before (Plug a a_port b b_port) after text lines k x =
    subst AreLines (sym x) (of-act number before (Plug a a_port b b_port) after text k k.said tt (runs-on _ k.done (λ y. y)))
command-lines number before (Pull name port) after text lines k x =
    subst AreLines (sym x) (of-act number before (Pull name port) after text k k.said tt (runs-on _ k.done (λ y. y)))
command-lines number before (Reset name) after text lines k x =
    subst AreLines (sym x) (of-act number before (Reset name) after text k k.said tt (runs-on _ k.done (λ y. y)))
command-lines number before (Config name root_id gap) after text lines k x =
    subst AreLines (sym x) (of-act number before (Config name root_id gap) after text k k.said tt (runs-on _ k.done (λ y. y)))
command-lines number before (Hold name port n) after text lines k x =
    subst AreLines (sym x)
    (told-lines (bus_of before).world.turns (omega (arith, k.before.turns)) (Hold name port n) k.said)
command-lines number before (Turn n) after text lines k x =
    let few = turn-within before n (running after) text k.done.follows in
    subst AreLines (sym x) (of-turns number before (Turn n) after text k n (runs-on _ k.done (λ y. y)) few)
command-lines number before Settle after text lines k x =
    let few = settle-within before (running after) text k.done.follows in
    subst AreLines (sym x)
    (of-turns number before Settle after text k (quiet_turns_of (bus_of before).world) (runs-on _ k.done (λ y. y)) few)
command-lines number before (Plan name) after text lines k x =
    let few = plan-turns before name (running after) text k.done.follows in
    of-plan number before (Plan name) after text k name lines k.said (runs-on _ k.done (λ y. y)) few x
command-lines number before c after text lines k x = nothing lines x

entry-lines :
    (e : Entry) (lines : List ℕ) → IsKnownEntry e → TracesAt trace_voice e.before e.command e.after lines →
    AreLines lines
entry-lines e lines k x = go e.after refl x
  where
    go : (after : Stage) → e.after ≡ after → TracesAt trace_voice e.before e.command after lines → AreLines lines
    go fresh is y = nothing lines y
    go (declaring draft) is y = nothing lines y
    go (running after) is y =
        command-lines e.line e.before e.command after e.text lines
        (subst (λ (s : Stage). IsKnownEntry (done e.line e.before e.command s e.text)) is k) y

-- ---- the whole

all-lines : (entries : List Entry) (lines : List ℕ) → All IsKnownEntry entries →
    AllTrace trace_voice entries lines → AreLines lines
all-lines [] lines k x = nothing lines x
all-lines (e ∷ entries) lines k x =
    subst AreLines (sym x.4)
    (both-lines x.0 x.1 (entry-lines e x.0 (All-head IsKnownEntry e entries k) x.2)
    (all-lines entries x.1 (All-tail IsKnownEntry e entries k) x.3))

pub traces-are-of-events : NamesAreTested → NoListHasTwoTrees → ActKeepsNodes → TracesAreOfEvents
traces-are-of-events tested trees keeps bytes text (run, is, (last, end, traced)) =
    of-events text (all-lines run.entries text (known-run tested trees keeps bytes run is).each traced)

-- A command leaves a bus whose world comes of power-on, and so does each line of a script.
use Rattle.std.proofs.Common.{◌≡◌, ◌+◌, ◌*◌, ◌<◌, ◌++◌, ◌≤◌, ◌==◌, ℕ, zero, suc, Bool, true, false, List, [], ◌∷◌, Option, Some, None, IfSome, length, refl, sym, subst, ◌∙◌, ap, arith}
use Rattle.std.specs.Prelude.{codes, slice_get, Ok, Err, MatchBool, nat_lt, unwrap_or, if◌then◌else◌}
use Rattle.std.proofs.lemmas.Bool.Decides.{nat_tests}
use Rattle.std.proofs.lemmas.List.{length-append}
use Rattle.cabling.specs.declared.cable.End.{End}
use Rattle.cabling.specs.declared.cable.CableFault.{CableFault}
use Rattle.cable_world.specs.declared.act.Act.{Act}
use Rattle.cable_world.specs.declared.act.Act.TheVariants as act
use Rattle.self_id.specs.declared.node.Attrs.{Attrs}
use Rattle.port_state.specs.Coins.{Coins}
use Rattle.port_state.specs.declared.timing.Timing.{Timing}
use Rattle.port_state.specs.declared.ranges.TimeRanges.{TimeRanges}
use Rattle.port_state.specs.Clock.{is_even}
use Rattle.port_state.specs.Machine.{PortNode}
use Rattle.port_state.proofs.Lemmas.{valid-power_on_with}
use Rattle.cable_world.specs.World.{CableWorld, NodeNumber, IsPowerOnWorld, world_with_times, slack_of}
use Rattle.cable_world.proofs.Lemmas.{power-on, some-same, reached-lawful, power-on-reached, turns-reached, act-reached, hold-reached, one-hold, rests-then, turns-rest}
use Rattle.cable_world.specs.Run.{IsReached, Rests, still}
use Rattle.cable_world.specs.Act.{IsAct, hold, hold_fault}
use Rattle.cable_world.specs.Turn.{turns_after}
use Rattle.cable_world.specs.Unchanged.{ActKeepsNodes}
use Rattle.resource_manager.specs.declared.access.Access.{Access}
use Rattle.resource_manager.specs.declared.access.Access.TheVariants as access
use Rattle.resource_manager.specs.declared.access.Answer.{Answer}
use Rattle.resource_manager.specs.declared.grant.Seen.{Seen}
use Rattle.resource_manager.specs.Access.{answer_of}
use Rattle.resource_manager.specs.Channel.{seen_of}
use Rattle.bus_manager.specs.Election.{lock_for}
use Rattle.root_plan.proofs.Lemmas.{candidate_within}
use Rattle.settle.specs.declared.report.Report.{Report}
use Rattle.settle.specs.Report.{quiet_turns_of}
use Rattle.settle.proofs.Lemmas.{gap-fits}
use Rattle.script_lines.specs.declared.kind.Kind.{Kind}
use Rattle.script_lines.specs.declared.command.Command.{Command}
use Rattle.script_lines.specs.declared.command.Command.TheVariants.{Node, Plug, Pull, Reset, Turn, Hold, Settle, Config, CsrRead, CsrWrite, CsrLock, Look, Allocate, Release, Manager, Plan, Maps, Delay, Times, Clock}
use Rattle.script_lines.specs.Range.{IsInRange, IsNodeInRange, IsConfigInRange}
use Rattle.script_lines.specs.Refusal.{kind_of}
use Rattle.self_id.specs.declared.standard.Standard.TheVariants.{Ieee2000}
use Rattle.topology_stack.specs.Tree.{Tree, IsBusTreeOf}
use Rattle.root_plan.specs.declared.choice.RootPlan.{RootPlan}
use Rattle.root_plan.specs.Plan.{IsPlan}
use Rattle.script_text.specs.CommandText.{csr_text, grant_text, bid_text}
use Rattle.script_told.specs.Bus.{Bus, Notes, ReportedTree, node_named, tree_with, values_at, after_access, put_look}
use Rattle.script_told.specs.Step.{LineAnswer, AtNamedNode, Named, AtTree, Settled, AtManager, Managed, id_of, Acts, HoldsWire, Within, Turns, Reports, DoesSettle, Accesses, DoesGrant, Looks, seen_by, Plans, GivesMaps, Does, end_of, config_of}
use Rattle.script_told.specs.SomeAnswer.{IsOfReached, IsReachedBus}
use Rattle.script_told.specs.Script.{Draft, Stage, fresh, declaring, running, StageAnswer, bus_of, first_draft, draft_with, new_node, times_of, coins_of, with_node, onwards}
use Rattle.script_told.specs.Bus.{bus_of_nodes}
use Rattle.script_told.specs.Fitting.{AreFitting, AreForced, IsFitting, spare}
use Rattle.script_told.proofs.Turns.{after-turns}
use Rattle.script_told.proofs.told.Fitting.{profile-fits, times-within, suits}

-- ---- a report of a reached world, a turn or a hold later

of-later :
    (k : ℕ) (w v : CableWorld) (o : Option Report) → Rests k w v → IfSome o (IsOfReached w) →
    IfSome o (IsOfReached v)
of-later k w v None rests h = tt
of-later k w v (Some report) rests h = record {
  world = h.world;
  reached = h.reached;
  is = h.is;
  turns = h.turns + k;
  rests = rests-then h.rests rests;
}

of-turns : (k : ℕ) (w : CableWorld) (o : Option Report) → IfSome o (IsOfReached w) →
    IfSome o (IsOfReached (turns_after k w))
of-turns k w o = of-later k w (turns_after k w) o (turns-rest k w)

-- ---- what an answer leaves

abbrev pub LeavesReached : LineAnswer → Type 0
LeavesReached (Ok (after, text)) = IsReachedBus after
LeavesReached (Err kind) = Unit {0}

abbrev pub Leaves : (LineAnswer → Type 0) → Type 0
Leaves Comes = (r : LineAnswer) → Comes r → LeavesReached r

known : (x : LineAnswer) → LeavesReached x → Leaves (λ r. r ≡ x)
known x h r e = subst LeavesReached (sym e) h

at-node : (o : Option NodeNumber) (Comes : NodeNumber → LineAnswer → Type 0) →
    ((k : NodeNumber) → Leaves (Comes k)) → Leaves (AtNamedNode o Comes)
at-node None Comes some r e = known (Err Kind.NoNode) tt r e
at-node (Some k) Comes some r e = some k r e

named : (bus : Bus) (name : List ℕ) (Comes : NodeNumber → LineAnswer → Type 0) →
    ((k : NodeNumber) → Leaves (Comes k)) → Leaves (Named bus name Comes)
named bus name Comes some = at-node (node_named bus.notes.names name) Comes some

at-tree : (o : Option ReportedTree) (Comes : ReportedTree → LineAnswer → Type 0) →
    ((t : ReportedTree) → Leaves (Comes t)) → Leaves (AtTree o Comes)
at-tree None Comes some r e = known (Err Kind.NotSettled) tt r e
at-tree (Some t) Comes some r e = some t r e

settled : (bus : Bus) (node : NodeNumber) (Comes : ReportedTree → LineAnswer → Type 0) →
    ((t : ReportedTree) → Leaves (Comes t)) → Leaves (Settled bus node Comes)
settled bus node Comes some = at-tree (tree_with node bus.notes) Comes some

at-manager : (o : Option NodeNumber) (Comes : NodeNumber → LineAnswer → Type 0) →
    ((k : NodeNumber) → Leaves (Comes k)) → Leaves (AtManager o Comes)
at-manager None Comes some r e = known (Err Kind.NoManager) tt r e
at-manager (Some k) Comes some r e = some k r e

managed :
    (bus : Bus) (name : List ℕ) (Comes : NodeNumber → ℕ → NodeNumber → LineAnswer → Type 0) →
    ((node : NodeNumber) (id : ℕ) (manager : NodeNumber) → Leaves (Comes node id manager)) → Leaves (Managed bus name Comes)
managed bus name Comes some = named bus name _ (λ node. settled bus node _ (λ tree r x.
    at-manager x.0 (Comes node (id_of tree node)) (λ manager. some node (id_of tree node) manager) r x.2))

if-test : (b : Bool) (One Other : LineAnswer → Type 0) → Leaves One → Leaves Other →
    Leaves (λ r. MatchBool b (One r) (Other r))
if-test true One Other one other r x = one r x
if-test false One Other one other r x = other r x

within : (bus : Bus) (n : ℕ) (Comes : LineAnswer → Type 0) → Leaves Comes →
    Leaves (Within bus n Comes)
within bus n Comes some = if-test (nat_lt 2000000 (bus.world.turns + n)) (λ r. r ≡ Err Kind.TooManyTurns) Comes (known (Err Kind.TooManyTurns) tt) some

-- ---- acts, holds, turns

pub do-act : ActKeepsNodes → (bus : Bus) (a : Act) → IsReachedBus bus → IsAct a →
    Leaves (Acts bus a)
do-act keeps bus a h is (Ok (after, text)) x = record {
  reached = act-reached a bus.world after.world (is, x.0, x.1) h.reached;
  named = ap (λ (n : Notes). length n.names) x.2 ∙ h.named ∙ sym (keeps a bus.world after.world x.1);
  reported = subst (λ (n : Notes). IfSome n.report (IsOfReached after.world)) (sym x.2) tt;
}
do-act keeps bus a h is (Err kind) x = tt

do-hold : (bus : Bus) (end : End) (n : ℕ) → IsReachedBus bus → Leaves (HoldsWire bus end n)
do-hold bus end n h r x = by (hold_fault end bus.world) refl
  where
    by : (o : Option CableFault) → hold_fault end bus.world ≡ o → LeavesReached r
    by None e = known (Ok (record bus { world = hold end n bus.world }, [])) (record {
      reached = hold-reached end n bus.world e h.reached;
      named = h.named;
      reported = of-later 0 bus.world (hold end n bus.world) bus.notes.report (one-hold end n bus.world e) h.reported;
    }) r (rw e at x)
    by (Some fault) e = known (Err (kind_of fault)) tt r (rw e at x)

-- as many nodes after turns
same-nodes : (k : ℕ) (w : CableWorld) → IsReached w →
    length (turns_after k w).nodes ≡ length w.nodes
same-nodes k w r =
    let f = (reached-lawful w r).well_formed in
    let g = (reached-lawful (turns_after k w) (turns-reached k w r)).well_formed in
    g.count ∙ ap (λ c. length c) (after-turns k w).cabling ∙ sym f.count

do-turns : (bus : Bus) (n : ℕ) → IsReachedBus bus → Leaves (Turns bus n)
do-turns bus n h = within bus n _ (known (Ok (record bus { world = turns_after n bus.world }, [])) (record {
  reached = turns-reached n bus.world h.reached;
  named = h.named ∙ sym (same-nodes n bus.world h.reached);
  reported = of-turns n bus.world bus.notes.report h.reported;
}))

-- ---- reports

do-report : (bus : Bus) → IsReachedBus bus → Leaves (Reports bus)
do-report bus h (Ok (after, text)) x =
    let quiet : ℕ = quiet_turns_of bus.world in
    let reached : IsReached after.world = subst IsReached (sym x.1) (turns-reached quiet bus.world h.reached) in
    record {
      reached = reached;
      named = ap (λ (n : Notes). length n.names) x.3 ∙ h.named ∙ sym (same-nodes quiet bus.world h.reached) ∙ ap (λ (w : CableWorld). length w.nodes) (sym x.1);
      reported = subst (λ (n : Notes). IfSome n.report (IsOfReached after.world)) (sym x.3)
          (record { world = after.world; reached = reached; is = x.2; turns = 0; rests = still });
    }
do-report bus h (Err kind) x = absurd x

pub do-settle : (bus : Bus) → IsReachedBus bus → Leaves (DoesSettle bus)
do-settle bus h = within bus (quiet_turns_of bus.world) (Reports bus) (do-report bus h)

-- ---- questions

do-access : (bus : Bus) (manager : NodeNumber) (a : Access) (text : Answer → List ℕ) →
    IsReachedBus bus → Leaves (Accesses bus manager a text)
do-access bus manager a text h = known (Ok (after_access manager a bus, text (answer_of (values_at manager bus) a))) (record { reached = h.reached; named = h.named; reported = h.reported })

do-grant : (bus : Bus) (node manager : NodeNumber) (a : Seen → Access) (text : Answer → List ℕ) →
    IsReachedBus bus → Leaves (DoesGrant bus node manager a text)
do-grant bus node manager a text h = do-access (put_look node None bus) manager (a (seen_by node manager bus)) text (record { reached = h.reached; named = h.named; reported = h.reported })

do-look : (bus : Bus) (node manager : NodeNumber) → IsReachedBus bus →
    Leaves (Looks bus node manager)
do-look bus node manager h = known (Ok (put_look node (Some (seen_of (values_at manager bus))) bus, [])) (record { reached = h.reached; named = h.named; reported = h.reported })

-- ---- maps and plans

do-maps : (bus : Bus) (tree : ReportedTree) → IsReachedBus bus → Leaves (GivesMaps bus tree)
do-maps bus tree h (Ok (after, text)) x = subst IsReachedBus (sym x.after_is) (record { reached = h.reached; named = h.named; reported = h.reported })
do-maps bus tree h (Err kind) x = absurd x

-- a plan's packet is one
pub plan-act :
    (t : Tree) → IsBusTreeOf Ieee2000 t → (plan : RootPlan) → IsPlan t plan → (node : NodeNumber) →
    IsAct (config_of node (Some plan.root_id) (Some plan.gap))
plan-act t bus plan planned node = record {
  bits = record {
    root_bits = omega (arith, candidate_within t plan.root_id planned.candidate, bus.bus.small);
    gap_bits = λ g e. omega (arith, some-same plan.gap g e, planned.gap, gap-fits plan.hops);
  };
  says = refl;
}

do-plan : ActKeepsNodes → (bus : Bus) (name : List ℕ) (node : NodeNumber) (tree : ReportedTree) →
    IsReachedBus bus → Leaves (Plans bus name node tree)
do-plan keeps bus name node tree h (Ok (after, text)) x =
    let a : Act = config_of node (Some x.plan.root_id) (Some x.plan.gap) in
    do-report x.sent (do-act keeps bus a h (plan-act x.shown x.is.bus x.plan x.planned node) (Ok (x.sent, [])) x.sends) (Ok (after, x.report)) x.reports
do-plan keeps bus name node tree h (Err kind) x = absurd x

-- ---- the commands

six : (o : Option ℕ) (most : ℕ) → IfSome o (λ n. n ≤ most) → unwrap_or o 0 ≤ most
six None most h = omega arith
six (Some n) most h = h

six-gap : (o : Option ℕ) (g : ℕ) → o ≡ Some g → IfSome o (λ n. n ≤ 63) → g ≤ 63
six-gap o g e h = subst (λ (p : Option ℕ). IfSome p (λ n. n ≤ 63)) e h

pub config-act : (node : NodeNumber) (root_id gap : Option ℕ) → IsConfigInRange root_id gap →
    IsAct (config_of node root_id gap)
config-act node root_id gap h = record {
  bits = record {
    root_bits = omega (arith, six root_id 62 h.root_most);
    gap_bits = λ g e. omega (arith, six-gap gap g e h.gap_most);
  };
  says = h.some_given;
}

pub leaves : ActKeepsNodes → (times : TimeRanges) (bus : Bus) (command : Command) → IsReachedBus bus →
    IsInRange times command → Leaves (Does bus command)
leaves keeps times bus (Node name ports speed link contender force power gap gap_reset held short long word len seed packed) h i = known (Err Kind.Late) tt
leaves keeps times bus (Delay delay) h i = known (Err Kind.Late) tt
leaves keeps times bus (Times standard nanoseconds) h i = known (Err Kind.Late) tt
leaves keeps times bus (Clock name ppm first) h i = known (Err Kind.Late) tt
leaves keeps times bus (Plug a a_port b b_port) h i = named bus a _ (λ n. named bus b _ (λ m. do-act keeps bus (act.Plug (end_of n a_port) (end_of m b_port)) h tt))
leaves keeps times bus (Pull name port) h i = named bus name _ (λ node. do-act keeps bus (act.Pull (end_of node port)) h tt)
leaves keeps times bus (Reset name) h i = named bus name _ (λ node. do-act keeps bus (act.Reset node) h tt)
leaves keeps times bus (Turn count) h i = do-turns bus count h
leaves keeps times bus (Hold name port n) h i = named bus name _ (λ node. do-hold bus (end_of node port) n h)
leaves keeps times bus Settle h i = do-settle bus h
leaves keeps times bus (Config name root_id gap) h i =
    named bus name _ (λ node. settled bus node _ (λ tree. do-act keeps bus (config_of node root_id gap) h (config-act node root_id gap i)))
leaves keeps times bus (CsrRead name offset) h i =
    managed bus name _ (λ node id manager. do-access bus manager (access.Read offset) (csr_text name) h)
leaves keeps times bus (CsrWrite name offset value) h i =
    managed bus name _ (λ node id manager. do-access bus manager (access.Write offset value) (csr_text name) h)
leaves keeps times bus (CsrLock name offset kind arg value) h i =
    managed bus name _ (λ node id manager. do-access bus manager (access.Lock offset kind arg value) (csr_text name) h)
leaves keeps times bus (Look name) h i =
    managed bus name _ (λ node id manager. do-look bus node manager h)
leaves keeps times bus (Allocate name channel units) h i =
    managed bus name _ (λ node id manager. do-grant bus node manager (λ seen. access.Allocate seen channel units) (grant_text (codes "allocate ") name) h)
leaves keeps times bus (Release name channel units) h i =
    managed bus name _ (λ node id manager. do-grant bus node manager (λ seen. access.Release seen channel units) (grant_text (codes "release ") name) h)
leaves keeps times bus (Manager name) h i =
    managed bus name _ (λ node id manager. do-access bus manager (lock_for id) (bid_text name) h)
leaves keeps times bus (Plan name) h i = managed bus name _ (λ node id manager.
    if-test ((values_at manager bus).bus_manager_id == id) _ (λ r. r ≡ Err Kind.NotManager)
    (within bus (quiet_turns_of bus.world) _ (settled bus node _ (λ tree. do-plan keeps bus name node tree h))) (known (Err Kind.NotManager) tt))
leaves keeps times bus (Maps name) h i = named bus name _ (λ node. settled bus node _ (λ tree.
    if-test (nat_lt bus.notes.maps 100) (GivesMaps bus tree) (λ r. r ≡ Err Kind.TooManyMaps) (do-maps bus tree h) (known (Err Kind.TooManyMaps) tt)))

-- ---- nodes that are declared

pub no-slack : (nodes : List PortNode) → length nodes ≡ 0 → slack_of nodes ≡ 0
no-slack [] e = refl
no-slack (x ∷ nodes) e = absurd (omega (arith, e))

-- one more node with an even clock
pub slack-append : (nodes : List PortNode) (x : PortNode) → is_even x.clock ≡ true →
    slack_of (nodes ++ x ∷ []) ≡ slack_of nodes
slack-append [] x e = rw e refl
slack-append (y ∷ nodes) x e = go (is_even y.clock) (slack-append nodes x e)
  where
    go : (b : Bool) → slack_of (nodes ++ x ∷ []) ≡ slack_of nodes →
        (if b then slack_of (nodes ++ x ∷ []) else 1) ≡ (if b then slack_of nodes else 1)
    go true same = same
    go false same = refl

pub record IsSoundDraft (draft : Draft) : Type 0 where
  pub some_delay : 1 ≤ draft.delay
  pub short_delay : draft.delay ≤ 16
  pub few : length draft.nodes ≤ 63
  pub same : length draft.names ≡ length draft.nodes
  pub fitting : AreFitting draft.delay draft.times.ranges
  pub forced : AreForced (draft.delay + spare draft.slowed) draft.times.ranges
  pub slack : slack_of draft.nodes ≡ spare draft.slowed
  pub powered : (k : ℕ) (x : PortNode) → slice_get draft.nodes k ≡ Some x →
      IsFitting draft.delay draft.times.ranges x

pub draft-power : (draft : Draft) → IsSoundDraft draft →
    IsPowerOnWorld (world_with_times draft.delay draft.times.ranges.most draft.nodes)
draft-power draft h =
    power-on draft.delay draft.times.ranges.most draft.nodes h.some_delay h.few (λ k x at. (h.powered k x at).powered)
    (λ k x at. (h.powered k x at).clock)

pub draft-bus : (draft : Draft) → IsSoundDraft draft →
    IsReachedBus (bus_of_nodes draft.delay draft.times draft.names draft.nodes)
draft-bus draft h = record {
  reached = power-on-reached (world_with_times draft.delay draft.times.ranges.most draft.nodes)
      (draft-power draft h)
      (record {
        short_delay = h.short_delay;
        forced = λ k x at.
            let w = (h.powered k x at).within in
            record { enough = omega (arith, h.forced.enough, h.slack, w.hold_least, w.force_least) };
        regular = λ k x at. (h.powered k x at).regular;
      });
  named = h.same;
  reported = tt;
}

pub no-nodes : (d : ℕ) → 1 ≤ d → d ≤ 16 → IsSoundDraft (draft_with d)
no-nodes d one most = record {
  some_delay = one;
  short_delay = most;
  few = omega arith;
  same = refl;
  fitting = profile-fits d one most;
  forced = record { enough = omega (arith, one) };
  slack = refl;
  powered = λ k x e. absurd cc;
}

abbrev pub IsSound : Stage → Type 0
IsSound fresh = Unit {0}
IsSound (declaring draft) = IsSoundDraft draft
IsSound (running bus) = IsReachedBus bus

pub sound-bus : (stage : Stage) → IsSound stage → IsReachedBus (bus_of stage)
sound-bus fresh h = draft-bus first_draft (no-nodes 4 (omega arith) (omega arith))
sound-bus (declaring draft) h = draft-bus draft h
sound-bus (running bus) h = h

pub more-at :
    (nodes : List PortNode) (x : PortNode) (P : PortNode → Type 0) → ((k : ℕ) (y : PortNode) → slice_get nodes k ≡ Some y → P y) → P x →
    (k : ℕ) (y : PortNode) → slice_get (nodes ++ x ∷ []) k ≡ Some y → P y
more-at [] x P h p zero y e = subst P (some-same x y e) p
more-at [] x P h p (suc k) y e = absurd cc
more-at (z ∷ nodes) x P h p zero y e = h zero y e
more-at (z ∷ nodes) x P h p (suc k) y e = more-at nodes x P (λ j w f. h (suc j) w f) p k y e

pub at-power-on :
    (d : ℕ) (r : TimeRanges) (ports : ℕ) (attrs : Attrs) (force resets_gap : Bool) (held short long : Option ℕ) (len : ℕ) (coins : Coins) → attrs.delay ≡ 0 →
    AreFitting d r → IsNodeInRange r ports attrs.speed attrs.power attrs.gap held short long len →
    IsFitting d r (new_node attrs ports force resets_gap (times_of r held short long) coins)
at-power-on d r ports attrs force resets_gap held short long len coins none fit h =
    let t : Timing = times_of r held short long in
    let in_ranges = times-within r ports attrs.speed attrs.power attrs.gap held short long len fit.least h in
    record {
      powered = record {
        is = refl;
        valid = valid-power_on_with resets_gap ports attrs force t h.some_port h.few_ports
            (record { gap = omega (arith, h.gap_most); speed = omega (arith, h.speed_most); delay = omega (arith, none); power = omega (arith, h.power_most) }) none;
        timing = suits d r t fit.suitable in_ranges;
      };
      within = in_ranges;
      regular = tt;
      clock = tt;
    }

-- a node more, where there is room
pub drafted :
    (draft : Draft) (name : List ℕ) (node : PortNode) → nat_lt 62 (length draft.names) ≡ false → is_even node.clock ≡ true →
    IsSoundDraft draft → IsFitting draft.delay draft.times.ranges node → IsSoundDraft (with_node draft name node)
drafted draft name node e even h on =
    let room : length draft.names ≤ 62 = grind (arith, nat_tests) in
    let names = length-append draft.names (name ∷ []) in
    let nodes = length-append draft.nodes (node ∷ []) in
    record {
      some_delay = h.some_delay;
      short_delay = h.short_delay;
      few = omega (arith, nodes, room, h.same);
      same = omega (arith, names, nodes, h.same);
      fitting = h.fitting;
      forced = h.forced;
      slack = slack-append draft.nodes node even ∙ h.slack;
      powered = more-at draft.nodes node (IsFitting draft.delay draft.times.ranges) h.powered on;
    }

-- ---- a stage

abbrev pub LeavesSound : StageAnswer → Type 0
LeavesSound (Ok (stage, text)) = IsSound stage
LeavesSound (Err kind) = Unit {0}

pub onwards-sound : (r : LineAnswer) → LeavesReached r → LeavesSound (onwards r)
onwards-sound (Ok (bus, text)) h = h
onwards-sound (Err kind) h = tt

-- what a line says of a node
abbrev pub attrs_said : ℕ → Bool → Bool → ℕ → ℕ → Attrs
attrs_said speed link contender power gap = record {
  link = link;
  gap = gap;
  speed = speed;
  delay = 0;
  contender = contender;
  power = power;
  initiated = false;
}

pub node-at-power-on :
    (draft : Draft) (ports speed : ℕ) (link contender force : Bool) (power gap : ℕ) (gap_reset : Bool)
    (held short long : Option ℕ) (word len : ℕ) (seed : Option ℕ) → AreFitting draft.delay draft.times.ranges →
    IsNodeInRange draft.times.ranges ports speed power gap held short long len →
    IsFitting draft.delay draft.times.ranges
    (new_node (attrs_said speed link contender power gap) ports force gap_reset (times_of draft.times.ranges held short long) (coins_of (length draft.names) word len seed))
node-at-power-on draft ports speed link contender force power gap gap_reset held short long word len seed fit i =
    at-power-on draft.delay draft.times.ranges ports (attrs_said speed link contender power gap) force gap_reset held short long len (coins_of (length draft.names) word len seed) refl fit i

-- the world that runs from a stage on comes of power-on
pub stage-reached : (stage : Stage) → IsSound stage → IsReached (bus_of stage).world
stage-reached stage h = (sound-bus stage h).reached

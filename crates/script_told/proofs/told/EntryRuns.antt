-- What a command does to the world of its bus, event by event.
use Rattle.std.proofs.Common.{◌≡◌, ◌==◌, ℕ, zero, suc, List, [], ◌∷◌, Option, Some, None, refl, sym, subst, ◌∙◌, ap, arith}
use Rattle.std.specs.Prelude.{Any, codes, Ok, Err, nat_lt}
use Rattle.std.proofs.lemmas.List.Elements.{All-weaker}
use Rattle.topology_stack.specs.OneAnswer.{NoListHasTwoTrees}
use Rattle.cabling.specs.declared.cable.End.{End}
use Rattle.cabling.specs.declared.cable.CableFault.{CableFault}
use Rattle.port_state.specs.declared.ranges.TimeRanges.{TimeRanges}
use Rattle.cable_world.specs.declared.act.Act.{Act}
use Rattle.cable_world.specs.declared.act.Act.TheVariants as act
use Rattle.cable_world.specs.World.{CableWorld, NodeNumber}
use Rattle.cable_world.specs.Act.{Acted, IsAct, hold, hold_fault}
use Rattle.cable_world.specs.Turn.{turn, turns_after}
use Rattle.cable_world.specs.Unchanged.{ActKeepsNodes}
use Rattle.cable_world.proofs.Lemmas.{some-same}
use Rattle.cable_world.specs.Events.{Event, acts, holds, turns, Runs, HasNoAct, turn_count}
use Rattle.resource_manager.specs.declared.access.Access.{Access}
use Rattle.resource_manager.specs.declared.access.Access.TheVariants as access
use Rattle.resource_manager.specs.declared.access.Answer.{Answer}
use Rattle.resource_manager.specs.declared.grant.Seen.{Seen}
use Rattle.resource_manager.specs.Access.{answer_of}
use Rattle.resource_manager.specs.Channel.{seen_of}
use Rattle.bus_manager.specs.Election.{lock_for}
use Rattle.settle.specs.Report.{quiet_turns_of}
use Rattle.script_text.specs.CommandText.{csr_text, grant_text, bid_text}
use Rattle.script_lines.specs.declared.kind.Kind.{Kind}
use Rattle.script_lines.specs.declared.command.Command.{Command}
use Rattle.script_lines.specs.declared.command.Command.TheVariants.{Node, Plug, Pull, Reset, Turn, Hold, Settle, Config, CsrRead, CsrWrite, CsrLock, Look, Allocate, Release, Manager, Plan, Maps, Delay, Times, Clock}
use Rattle.script_lines.specs.Range.{IsInRange}
use Rattle.script_told.specs.Bus.{Bus, Notes, ReportedTree, node_named, values_at, after_access, put_look}
use Rattle.script_told.specs.Step.{LineAnswer, AtNamedNode, Acts, HoldsWire, Turns, Reports, Accesses, DoesGrant, Looks, seen_by, Plans, GivesMaps, Does, end_of, config_of}
use Rattle.script_told.specs.Script.{Stage, StageAnswer, bus_of, ranges_of, onwards, DoesAtStage, DoesOnBus}
use Rattle.script_told.specs.Run.{Entry}
use Rattle.script_told.specs.ScriptEvents.{Declares, LeavesAlone, TakesNoTurn, IsActOf, IsPullOf, DoesEvents, RunsOn, ScriptsAreRuns}
use Rattle.script_lines.specs.Refusal.{kind_of}
use Rattle.script_told.proofs.told.Parts.{stage-in}
use Rattle.script_told.proofs.told.Reached.{config-act, plan-act}
use Rattle.script_told.proofs.told.EachDone.{IsDone, each-done}
use Rattle.script_told.proofs.told.Answers.{is-known, each-node, each-node-at, each-settled, each-managed, each-test, each-within}

-- ---- events

none-among :
    (a : Act) (events : List Event) → HasNoAct events → Any (λ e. e ≡ acts a) events → ⊥
none-among a [] none (k, x, less, at, is) = absurd (omega (arith, less))
none-among a (acts b ∷ events) none h = none
none-among a (holds end n ∷ events) none (zero, x, less, at, is) = absurd cc
none-among a (holds end n ∷ events) none (suc k, x, less, at, is) = none-among a events none (k, x, omega (arith, less), at, is)
none-among a (turns ∷ events) none (zero, x, less, at, is) = absurd cc
none-among a (turns ∷ events) none (suc k, x, less, at, is) = none-among a events none (k, x, omega (arith, less), at, is)

abbrev act-in : Act → Event → Act
act-in b (acts a) = a
act-in b (holds end n) = b
act-in b turns = b

first-act :
    (a b : Act) (events : List Event) → HasNoAct events → Any (λ e. e ≡ acts b) (acts a ∷ events) → a ≡ b
first-act a b events none (zero, x, less, at, is) = ap (act-in a) (at ∙ is)
first-act a b events none (suc k, x, less, at, is) = absurd (none-among b events none (k, x, omega (arith, less), at, is))

-- turns alone
abbrev only_turns : ℕ → List Event
only_turns zero = []
only_turns (suc k) = turns ∷ only_turns k

no-acts : (k : ℕ) → HasNoAct (only_turns k)
no-acts zero = tt
no-acts (suc k) = no-acts k

turns-run : (k : ℕ) (w : CableWorld) → Runs (only_turns k) w (turns_after k w)
unfolding turns_after
turns-run zero w = refl
turns-run (suc k) w = (turn w, refl, turns-run k (turn w))

-- ---- what an answer leads to

abbrev Led : Bus → Command → LineAnswer → Type 0
Led bus command (Ok (after, text)) = DoesEvents bus command after
Led bus command (Err kind) = Unit {0}

-- events without an act
without-act :
    (bus after : Bus) (command : Command) (events : List Event) → HasNoAct events →
    ((a : Act) → IsActOf bus command a → ⊥) → (TakesNoTurn command → turn_count events ≡ 0) →
    Runs events bus.world after.world → after.notes.names ≡ bus.notes.names →
    DoesEvents bus command after
without-act bus after command events none no_act at_once run names = record {
  events = events;
  run = run;
  alone = λ x. none;
  pulls = λ end h. absurd (none-among (act.Pull end) events none h);
  first = λ a is. absurd (no_act a is);
  at_once = at_once;
  names = names;
}

-- an act, and then turns
with-act :
    (bus after : Bus) (command : Command) (a : Act) (sent : CableWorld) (k : ℕ) →
    Acted a bus.world sent → after.world ≡ turns_after k sent →
    after.notes.names ≡ bus.notes.names → (LeavesAlone command → ⊥) →
    ((end : End) → a ≡ act.Pull end → IsPullOf bus command end) →
    ((b : Act) → IsActOf bus command b → a ≡ b) → (TakesNoTurn command → k ≡ 0) →
    DoesEvents bus command after
with-act bus after command a sent k did quiet names not_alone pulls only at_once = record {
  events = acts a ∷ only_turns k;
  run = (sent, did, subst (Runs (only_turns k) sent) (sym quiet) (turns-run k sent));
  alone = λ x. absurd (not_alone x);
  pulls = λ end h. pulls end (first-act a (act.Pull end) (only_turns k) (no-acts k) h);
  first = λ b is. (only_turns k, ap (λ x. acts x ∷ only_turns k) (only b is));
  at_once = λ h. subst (λ n. turn_count (only_turns n) ≡ 0) (sym (at_once h)) refl;
  names = names;
}

module _ (bus : Bus) (command : Command) where
  abbrev by : LineAnswer → Type 0
  by = Led bus command

  fault : (kind : Kind) → Led bus command (Err kind)
  fault kind = tt

  acted :
      (a : Act) → IsAct a → (LeavesAlone command → ⊥) →
      ((end : End) → a ≡ act.Pull end → IsPullOf bus command end) →
      ((b : Act) → IsActOf bus command b → a ≡ b) → (r : LineAnswer) → Acts bus a r →
      Led bus command r
  unfolding turns_after
  acted a is not_alone pulls only (Ok (after, text)) x =
      with-act bus after command a after.world 0 (is, x.0, x.1) refl (ap (λ (n : Notes). n.names) x.2) not_alone pulls only (λ h. refl)
  acted a is not_alone pulls only (Err kind) x = tt

  -- no act
  module _ (no_act : (a : Act) → IsActOf bus command a → ⊥) where
    held : (end : End) (n : ℕ) (r : LineAnswer) → HoldsWire bus end n r → Led bus command r
    held end n r x = go (hold_fault end bus.world) refl
      where
        go : (o : Option CableFault) → hold_fault end bus.world ≡ o → Led bus command r
        go None e =
            let now : Bus = record bus { world = hold end n bus.world } in
            is-known by fault (Ok (now, [])) (without-act bus now command (holds end n ∷ []) tt no_act (λ h. refl) (hold end n bus.world, (e, refl), refl) refl) r (rw e at x)
        go (Some f) e = is-known by fault (Err (kind_of f)) tt r (rw e at x)

    turned : (TakesNoTurn command → ⊥) → (n : ℕ) (r : LineAnswer) → Turns bus n r → Led bus command r
    turned moves n r x =
        let now : Bus = record bus { world = turns_after n bus.world } in
        each-within by fault bus n (λ s. s ≡ Ok (now, []))
        (is-known by fault (Ok (now, [])) (without-act bus now command (only_turns n) (no-acts n) no_act (λ h. absurd (moves h)) (turns-run n bus.world) refl)) r x

    reported : (TakesNoTurn command → ⊥) → (r : LineAnswer) → Reports bus r → Led bus command r
    reported moves (Ok (after, text)) x =
        let quiet : ℕ = quiet_turns_of bus.world in
        without-act bus after command (only_turns quiet) (no-acts quiet) no_act (λ h. absurd (moves h)) (subst (Runs (only_turns quiet) bus.world) (sym x.1) (turns-run quiet bus.world))
        (ap (λ (n : Notes). n.names) x.3)
    reported moves (Err kind) x = absurd x

    -- nothing happens
    asked : (after : Bus) (text : List ℕ) → after.world ≡ bus.world → after.notes.names ≡ bus.notes.names →
        (r : LineAnswer) → r ≡ Ok (after, text) → Led bus command r
    asked after text same names = is-known by fault (Ok (after, text)) (without-act bus after command [] tt no_act (λ h. refl) same names)

    accessed :
        (manager : NodeNumber) (a : Access) (text : Answer → List ℕ) (r : LineAnswer) →
        Accesses bus manager a text r → Led bus command r
    accessed manager a text = asked (after_access manager a bus) (text (answer_of (values_at manager bus) a)) refl refl

    granted :
        (node manager : NodeNumber) (a : Seen → Access) (text : Answer → List ℕ) (r : LineAnswer) →
        DoesGrant bus node manager a text r → Led bus command r
    granted node manager a text =
        let b : Bus = put_look node None bus in
        let x : Access = a (seen_by node manager bus) in
        asked (after_access manager x b) (text (answer_of (values_at manager b) x)) refl refl

    looked : (node manager : NodeNumber) (r : LineAnswer) → Looks bus node manager r → Led bus command r
    looked node manager = asked (put_look node (Some (seen_of (values_at manager bus))) bus) [] refl refl

    mapped : (tree : ReportedTree) (r : LineAnswer) → GivesMaps bus tree r → Led bus command r
    mapped tree (Ok (after, text)) x =
        without-act bus after command [] tt no_act (λ h. refl) (ap (λ (b : Bus). b.world) x.after_is) (ap (λ (b : Bus). b.notes.names) x.after_is)
    mapped tree (Err kind) x = absurd x

-- a plan's packet, and the turns to settle
planned :
    (bus : Bus) (name other : List ℕ) (node : NodeNumber) (tree : ReportedTree) (r : LineAnswer) →
    Plans bus other node tree r → Led bus (Plan name) r
planned bus name other node tree (Ok (after, text)) x =
    let a : Act = config_of node (Some x.plan.root_id) (Some x.plan.gap) in
    with-act bus after (Plan name) a x.sent.world (quiet_turns_of x.sent.world)
    (plan-act x.shown x.is.bus x.plan x.planned node, x.sends.0, x.sends.1) x.reports.1
    (ap (λ (n : Notes). n.names) x.reports.3 ∙ ap (λ (n : Notes). n.names) x.sends.2) (λ h. h) (λ end e. absurd cc) (λ b h. absurd h) (λ h. absurd h)
planned bus name other node tree (Err kind) x = absurd x

-- ---- the acts that commands are

same-node : (o : Option NodeNumber) (m n : NodeNumber) → o ≡ Some m → o ≡ Some n → m ≡ n
same-node o m n one other = some-same m n (sym one ∙ other)

one-plug :
    (bus : Bus) (a b : List ℕ) (a_port b_port : ℕ) (n m : NodeNumber) → node_named bus.notes.names a ≡ Some n →
    node_named bus.notes.names b ≡ Some m → (x : Act) → IsActOf bus (Plug a a_port b b_port) x →
    act.Plug (end_of n a_port) (end_of m b_port) ≡ x
one-plug bus a b a_port b_port n m one other x (i, j, first, second, is) =
    rw (same-node (node_named bus.notes.names a) n i one first, same-node (node_named bus.notes.names b) m j other second) (sym is)

one-pull :
    (bus : Bus) (name : List ℕ) (port : ℕ) (n : NodeNumber) → node_named bus.notes.names name ≡ Some n → (x : Act) →
    IsActOf bus (Pull name port) x → act.Pull (end_of n port) ≡ x
one-pull bus name port n e x (i, named, is) = rw (same-node (node_named bus.notes.names name) n i e named) (sym is)

one-reset :
    (bus : Bus) (name : List ℕ) (n : NodeNumber) → node_named bus.notes.names name ≡ Some n → (x : Act) →
    IsActOf bus (Reset name) x → act.Reset n ≡ x
one-reset bus name n e x (i, named, is) = rw (same-node (node_named bus.notes.names name) n i e named) (sym is)

one-config :
    (bus : Bus) (name : List ℕ) (root_id gap : Option ℕ) (n : NodeNumber) → node_named bus.notes.names name ≡ Some n →
    (x : Act) → IsActOf bus (Config name root_id gap) x → config_of n root_id gap ≡ x
one-config bus name root_id gap n e x (i, named, is) = rw (same-node (node_named bus.notes.names name) n i e named) (sym is)

abbrev end-in : Act → End → End
end-in (act.Pull e) d = e
end-in a d = d

pulled :
    (bus : Bus) (name : List ℕ) (port : ℕ) (r : LineAnswer) → Does bus (Pull name port) r →
    Led bus (Pull name port) r
pulled bus name port r x = go (node_named bus.notes.names name) refl x
  where
    go :
        (o : Option NodeNumber) → node_named bus.notes.names name ≡ o → AtNamedNode o (λ node. Acts bus (act.Pull (end_of node port))) r →
        Led bus (Pull name port) r
    go None e y = is-known (Led bus (Pull name port)) (λ k. tt) (Err Kind.NoNode) tt r y
    go (Some node) e y = acted bus (Pull name port) (act.Pull (end_of node port)) tt (λ h. h) (λ end same.
        let is : end_of node port ≡ end = ap (λ a. end-in a end) same in
        (e ∙ ap (λ (z : End). Some z.node) is, ap (λ (z : End). z.port) (sym is))) (one-pull bus name port node e) r y

pub does-events :
    (d : TimeRanges) (bus : Bus) (command : Command) → IsInRange d command → (r : LineAnswer) → Does bus command r →
    Led bus command r
does-events d bus (Node name ports speed link contender force power gap gap_reset held short long word len seed packed) i r x = is-known (Led bus _) (λ k. tt) (Err Kind.Late) tt r x
does-events d bus (Delay delay) i r x = is-known (Led bus (Delay delay)) (λ k. tt) (Err Kind.Late) tt r x
does-events d bus (Times standard nanoseconds) i r x = is-known (Led bus (Times standard nanoseconds)) (λ k. tt) (Err Kind.Late) tt r x
does-events d bus (Clock name ppm first) i r x = is-known (Led bus (Clock name ppm first)) (λ k. tt) (Err Kind.Late) tt r x
does-events d bus (Plug a a_port b b_port) i r x =
    let c : Command = Plug a a_port b b_port in
    each-node-at (Led bus c) (λ k. tt) (node_named bus.notes.names a) _ (λ n one. each-node-at (Led bus c) (λ k. tt) (node_named bus.notes.names b) _ (λ m other.
    acted bus c (act.Plug (end_of n a_port) (end_of m b_port)) tt (λ h. h) (λ end e. absurd cc) (one-plug bus a b a_port b_port n m one other))) r x
does-events d bus (Pull name port) i r x = pulled bus name port r x
does-events d bus (Reset name) i r x =
    each-node-at (Led bus (Reset name)) (λ k. tt) (node_named bus.notes.names name) _ (λ n at. acted bus (Reset name) (act.Reset n) tt (λ h. h) (λ end e. absurd cc) (one-reset bus name n at)) r x
does-events d bus (Turn count) i r x = turned bus (Turn count) (λ a h. h) (λ h. h) count r x
does-events d bus (Hold name port n) i r x =
    each-node (Led bus (Hold name port n)) (λ k. tt) (node_named bus.notes.names name) _ (λ node. held bus (Hold name port n) (λ a h. h) (end_of node port) n) r x
does-events d bus Settle i r x =
    each-within (Led bus Settle) (λ k. tt) bus (quiet_turns_of bus.world) (Reports bus) (reported bus Settle (λ a h. h) (λ h. h)) r x
does-events d bus (Config name root_id gap) i r x =
    let c : Command = Config name root_id gap in
    each-node-at (Led bus c) (λ k. tt) (node_named bus.notes.names name) _ (λ node at. each-settled (Led bus c) (λ k. tt) bus node _ (λ tree.
    acted bus c (config_of node root_id gap) (config-act node root_id gap i) (λ h. h) (λ end e. absurd cc) (one-config bus name root_id gap node at))) r x
does-events d bus (CsrRead name offset) i r x =
    each-managed (Led bus (CsrRead name offset)) (λ k. tt) bus name _ (λ node id manager. accessed bus (CsrRead name offset) (λ a h. h) manager (access.Read offset) (csr_text name)) r x
does-events d bus (CsrWrite name offset value) i r x =
    each-managed (Led bus (CsrWrite name offset value)) (λ k. tt) bus name _ (λ node id manager. accessed bus (CsrWrite name offset value) (λ a h. h) manager (access.Write offset value) (csr_text name)) r x
does-events d bus (CsrLock name offset kind arg value) i r x =
    each-managed (Led bus (CsrLock name offset kind arg value)) (λ k. tt) bus name _ (λ node id manager. accessed bus (CsrLock name offset kind arg value) (λ a h. h) manager (access.Lock offset kind arg value) (csr_text name)) r x
does-events d bus (Look name) i r x =
    each-managed (Led bus (Look name)) (λ k. tt) bus name _ (λ node id manager. looked bus (Look name) (λ a h. h) node manager) r x
does-events d bus (Allocate name channel units) i r x =
    each-managed (Led bus (Allocate name channel units)) (λ k. tt) bus name _ (λ node id manager. granted bus (Allocate name channel units) (λ a h. h) node manager (λ seen. access.Allocate seen channel units) (grant_text (codes "allocate ") name)) r x
does-events d bus (Release name channel units) i r x =
    each-managed (Led bus (Release name channel units)) (λ k. tt) bus name _ (λ node id manager. granted bus (Release name channel units) (λ a h. h) node manager (λ seen. access.Release seen channel units) (grant_text (codes "release ") name)) r x
does-events d bus (Manager name) i r x =
    each-managed (Led bus (Manager name)) (λ k. tt) bus name _ (λ node id manager. accessed bus (Manager name) (λ a h. h) manager (lock_for id) (bid_text name)) r x
does-events d bus (Plan name) i r x =
    let P : LineAnswer → Type 0 = Led bus (Plan name) in
    each-managed P (λ k. tt) bus name _ (λ node id manager.
    each-test P (λ k. tt) ((values_at manager bus).bus_manager_id == id) _ (λ s. s ≡ Err Kind.NotManager)
    (each-within P (λ k. tt) bus (quiet_turns_of bus.world) _ (each-settled P (λ k. tt) bus node _ (λ tree. planned bus name name node tree)))
    (is-known P (λ k. tt) (Err Kind.NotManager) tt)) r x
does-events d bus (Maps name) i r x =
    let P : LineAnswer → Type 0 = Led bus (Maps name) in
    each-node P (λ k. tt) (node_named bus.notes.names name) _ (λ node. each-settled P (λ k. tt) bus node _ (λ tree.
    each-test P (λ k. tt) (nat_lt bus.notes.maps 100) (GivesMaps bus tree) (λ s. s ≡ Err Kind.TooManyMaps) (mapped bus (Maps name) (λ a h. h) tree)
    (is-known P (λ k. tt) (Err Kind.TooManyMaps) tt))) r x

-- ---- each command of a run

by-answer :
    (e : Entry) (r : LineAnswer) → Led (bus_of e.before) e.command r →
    ◌≡◌ {A = StageAnswer} (Ok (e.after, e.text)) (onwards r) → RunsOn e
by-answer e (Ok (after, text)) led same = record { after = after; is = ap stage-in same; does = led }
by-answer e (Err kind) led same = absurd cc

follows-runs :
    (stage : Stage) (c : Command) (answer : StageAnswer) →
    (Declares c → ⊥) → DoesAtStage stage c answer →
    DoesOnBus stage c answer
follows-runs stage (Node name ports speed link contender force power gap gap_reset held short long word len seed packed) answer not f = absurd (not tt)
follows-runs stage (Delay delay) answer not f = absurd (not tt)
follows-runs stage (Times standard nanoseconds) answer not f = absurd (not tt)
follows-runs stage (Clock name ppm first) answer not f = absurd (not tt)
follows-runs stage c answer not f = f

pub runs-on : (e : Entry) → IsDone e → (Declares e.command → ⊥) → RunsOn e
runs-on e is not =
    let f = follows-runs e.before e.command (Ok (e.after, e.text)) not is.follows in
    by-answer e f.0 (does-events (ranges_of e.before) (bus_of e.before) e.command is.range f.0 f.1) f.2

pub scripts-are-runs : NoListHasTwoTrees → ActKeepsNodes → ScriptsAreRuns
scripts-are-runs trees keeps bytes run x =
    All-weaker IsDone (λ (e : Entry). (Declares e.command → ⊥) → RunsOn e) runs-on run.entries
    (each-done trees keeps bytes run x).each

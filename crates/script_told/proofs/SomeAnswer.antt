-- A command comes to some answer.
use Rattle.std.proofs.Common.{◌≡◌, ◌+◌, ◌<◌, ℕ, Bool, true, false, List, [], Option, Some, None, length, refl, sym, subst, ap, arith}
use Rattle.std.specs.Prelude.{codes, Ok, Err, IfSome, IsSomeAnd, MatchBool, nat_lt, if◌then◌else◌}
use Rattle.std.specs.Option.{option_and_then}
use Rattle.std.proofs.lemmas.Bool.Decides.{nat_tests}
use Rattle.cabling.specs.declared.cable.End.{End}
use Rattle.cabling.specs.declared.cable.CableFault.{CableFault}
use Rattle.cabling.specs.declared.cable.CableFault.TheVariants.{NoNode}
use Rattle.cabling.specs.Existence.{HasComponent, ComponentsExist}
use Rattle.cable_world.specs.declared.act.Act.{Act}
use Rattle.cable_world.specs.declared.act.Act.TheVariants as act
use Rattle.cable_world.specs.World.{CableWorld, NodeNumber}
use Rattle.cable_world.specs.Run.{IsReached}
use Rattle.cable_world.specs.Turn.{turns_after}
use Rattle.cable_world.specs.Act.{ActLeads, act_fault, hold, hold_fault, plug, pull, reset, configure, note_changes}
use Rattle.cable_world.proofs.Lemmas.{reached-lawful, turns-reached}
use Rattle.port_state.specs.Config.{config_packet}
use Rattle.resource_manager.specs.declared.access.Access.{Access}
use Rattle.resource_manager.specs.declared.access.Access.TheVariants as access
use Rattle.resource_manager.specs.declared.access.Answer.{Answer}
use Rattle.resource_manager.specs.declared.grant.Seen.{Seen}
use Rattle.resource_manager.specs.Access.{answer_of}
use Rattle.resource_manager.specs.Channel.{seen_of}
use Rattle.bus_manager.specs.Election.{lock_for}
use Rattle.settle.specs.declared.report.Report.{Report}
use Rattle.settle.specs.Report.{quiet_turns_of}
use Rattle.script_lines.specs.declared.kind.Kind.{Kind}
use Rattle.script_lines.specs.declared.command.Command.TheVariants.{Node, Plug, Pull, Reset, Turn, Hold, Settle, Config, CsrRead, CsrWrite, CsrLock, Look, Allocate, Release, Manager, Plan, Maps, Delay, Times, Clock}
use Rattle.script_lines.specs.Refusal.{kind_of}
use Rattle.script_text.specs.CommandText.{csr_text, grant_text, bid_text}
use Rattle.script_text.specs.SomeText.{HasReportText, QuietWorldsHaveTexts}
use Rattle.script_text.specs.SomeMaps.{HasMapsText, MapsHaveTexts}
use Rattle.script_told.specs.Bus.{Bus, ReportedTree, node_named, resets_of, values_at, after_access, put_look, tree_of, part_with, tree_with}
use Rattle.script_told.specs.Step.{LineAnswer, AtNamedNode, Named, AtTree, Settled, AtManager, Managed, id_of, Acts, HoldsWire, Within, Reports, Accesses, seen_by, DoesGrant, Looks, MapsOf, GivesMaps, end_of, config_of, notes_after_act, notes_after_report, after_maps}
use Rattle.script_told.specs.SomeManager.{IsManaged, ReportedTreesAreManaged}
use Rattle.script_told.specs.SomeAnswer.{IsOfReached, IsReachedBus, HasAnswer, CommandsHaveAnswers, BusesSettle}
use Rattle.script_told.proofs.Turns.{after-turns}

-- ---- what has to be there first

pub known : (r : LineAnswer) → HasAnswer (λ answer. answer ≡ r)
known r = record { answer = r; is = refl }

at-node : (o : Option NodeNumber) (Comes : NodeNumber → LineAnswer → Type 0) →
    ((k : NodeNumber) → HasAnswer (Comes k)) → HasAnswer (AtNamedNode o Comes)
at-node None Comes some = known (Err Kind.NoNode)
at-node (Some k) Comes some = let a = some k in record { answer = a.answer; is = a.is }

named : (bus : Bus) (name : List ℕ) (Comes : NodeNumber → LineAnswer → Type 0) →
    ((k : NodeNumber) → HasAnswer (Comes k)) → HasAnswer (Named bus name Comes)
named bus name Comes some = at-node (node_named bus.notes.names name) Comes some

at-tree :
    (o : Option ReportedTree) (Comes : ReportedTree → LineAnswer → Type 0) →
    ((t : ReportedTree) → o ≡ Some t → HasAnswer (Comes t)) →
    HasAnswer (AtTree o Comes)
at-tree None Comes some = known (Err Kind.NotSettled)
at-tree (Some t) Comes some = let a = some t refl in record { answer = a.answer; is = a.is }

at-manager : (o : Option NodeNumber) (Comes : NodeNumber → LineAnswer → Type 0) →
    ((k : NodeNumber) → HasAnswer (Comes k)) → HasAnswer (AtManager o Comes)
at-manager None Comes some = known (Err Kind.NoManager)
at-manager (Some k) Comes some = let a = some k in record { answer = a.answer; is = a.is }

pub if-test : (b : Bool) (One Other : LineAnswer → Type 0) → HasAnswer One → HasAnswer Other →
    HasAnswer (λ r. MatchBool b (One r) (Other r))
if-test true One Other one other = record { answer = one.answer; is = one.is }
if-test false One Other one other = record { answer = other.answer; is = other.is }

pub within : (bus : Bus) (turns : ℕ) (Comes : LineAnswer → Type 0) → HasAnswer Comes →
    HasAnswer (Within bus turns Comes)
within bus turns Comes some = if-test (nat_lt 2000000 (bus.world.turns + turns)) (λ r. r ≡ Err Kind.TooManyTurns) Comes (known (Err Kind.TooManyTurns)) some

-- ---- acts

-- a node that isn't refused exists
there :
    (node count : ℕ) (b : Bool) → nat_lt node count ≡ b →
    (if b then None else Some (NoNode (record { node = node; port = 0 }))) ≡ None → node < count
there node count true e h = grind (arith, nat_tests)
there node count false e h = absurd cc

-- an act that isn't refused leads to a world
pub act-leads : ComponentsExist → (a : Act) (w : CableWorld) → IsReached w → act_fault a w ≡ None →
    (v : CableWorld) × ActLeads a w v
act-leads components (act.Plug a b) w r none = (note_changes w (plug a b w), refl)
act-leads components (act.Pull end) w r none = (note_changes w (pull end w), refl)
act-leads components (act.Reset node) w r none = (note_changes w (reset node w), refl)
act-leads components (act.Config from root_id force gap) w r none =
    let f = (reached-lawful w r).well_formed in
    let inside : from < length w.nodes = there from (length w.nodes) (nat_lt from (length w.nodes)) refl none in
    let c : HasComponent w.cabling from = components w.cabling from f.cabling (omega (arith, inside, f.count)) in
    (note_changes w (configure c.set from (config_packet root_id force gap) w), (c.set, c.is, refl))

acts : ComponentsExist → (bus : Bus) (a : Act) → IsReached bus.world → HasAnswer (Acts bus a)
acts components bus a r = by (act_fault a bus.world) refl
  where
    by : (o : Option CableFault) → act_fault a bus.world ≡ o → HasAnswer (Acts bus a)
    by None e =
        let v = act-leads components a bus.world r e in
        record { answer = Ok (record { world = v.0; notes = notes_after_act bus.notes }, []); is = (e, v.1, refl, refl) }
    by (Some fault) e = record {
      answer = Err (kind_of fault);
      is = subst (λ (o : Option CableFault). IsSomeAnd o (λ f. kind_of fault ≡ kind_of f)) (sym e) refl;
    }

holds : (bus : Bus) (end : End) (turns : ℕ) → HasAnswer (HoldsWire bus end turns)
holds bus end turns = by (hold_fault end bus.world) refl
  where
    by : (o : Option CableFault) → hold_fault end bus.world ≡ o →
        HasAnswer (HoldsWire bus end turns)
    by None e = record { answer = Ok (record bus { world = hold end turns bus.world }, []); is = rw e refl }
    by (Some fault) e = record { answer = Err (kind_of fault); is = rw e refl }

-- ---- reports and maps

pub reports : QuietWorldsHaveTexts → (bus : Bus) → IsReached bus.world →
    length bus.notes.names ≡ length bus.world.nodes → HasAnswer (Reports bus)
reports texts bus r enough =
    let quiet : ℕ = quiet_turns_of bus.world in
    let v : CableWorld = turns_after quiet bus.world in
    let f = (reached-lawful bus.world r).well_formed in
    let g = (reached-lawful v (turns-reached quiet bus.world r)).well_formed in
    let same = ap (λ c. length c) (after-turns quiet bus.world).cabling in
    let t : HasReportText v bus.notes.names (bus.notes.reports + 1) =
    texts bus.world v bus.notes.names (bus.notes.reports + 1) r refl (omega (arith, enough, f.count, g.count, same)) in
    record {
      answer = Ok (record { world = v; notes = notes_after_report bus.notes t.report }, t.text);
      is = (t.report, refl, t.is, refl, t.told);
    }

pub settles : QuietWorldsHaveTexts → BusesSettle
settles texts bus h = within bus (quiet_turns_of bus.world) (Reports bus) (reports texts bus h.reached h.named)

-- ---- trees of the last report

module _ (trees : ReportedTreesAreManaged) (bus : Bus) (h : IsReachedBus bus) where
  pub tree-managed : (node : NodeNumber) (tree : ReportedTree) →
      tree_with node bus.notes ≡ Some tree →
      IsManaged tree
  tree-managed node tree is = by bus.notes.report refl is h.reported
    where
      by :
          (o : Option Report) → bus.notes.report ≡ o → option_and_then tree_of (option_and_then (part_with node) o) ≡ Some tree →
          IfSome o (IsOfReached bus.world) → IsManaged tree
      by None e found r = absurd cc
      by (Some report) e found r = trees r.world report bus.notes node tree ∣ r.reached ∣₁ r.is e is

  settled : (node : NodeNumber) (Comes : ReportedTree → LineAnswer → Type 0) →
      ((t : ReportedTree) → IsManaged t → HasAnswer (Comes t)) → HasAnswer (Settled bus node Comes)
  settled node Comes some = at-tree (tree_with node bus.notes) Comes (λ t is. some t (tree-managed node t is))

  managed :
      (name : List ℕ) (Comes : NodeNumber → ℕ → NodeNumber → LineAnswer → Type 0) →
      ((node : NodeNumber) (id : ℕ) (manager : NodeNumber) → HasAnswer (Comes node id manager)) → HasAnswer (Managed bus name Comes)
  managed name Comes some = named bus name _ (λ node. settled node _ (λ tree m.
      let a = at-manager m.manager (Comes node (id_of tree node)) (λ manager. some node (id_of tree node) manager) in
      record { answer = a.answer; is = (m.manager, m.has, a.is) }))

  maps : MapsHaveTexts → (tree : ReportedTree) → IsManaged tree → HasAnswer (MapsOf bus tree)
  maps texts tree m = if-test (nat_lt bus.notes.maps 100) (GivesMaps bus tree) (λ r. r ≡ Err Kind.TooManyMaps)
      (let t : HasMapsText (resets_of bus.world tree.root) m.shown = texts (resets_of bus.world tree.root) m.shown m.is.bus.bus in
      record { answer = Ok (after_maps bus, t.text); is = record { shown = m.shown; is = m.is; after_is = refl; told = t.is } })
      (known (Err Kind.TooManyMaps))

-- ---- questions

accesses : (bus : Bus) (manager : NodeNumber) (a : Access) (text : Answer → List ℕ) →
    HasAnswer (Accesses bus manager a text)
accesses bus manager a text = known (Ok (after_access manager a bus, text (answer_of (values_at manager bus) a)))

grants : (bus : Bus) (node manager : NodeNumber) (a : Seen → Access) (text : Answer → List ℕ) →
    HasAnswer (DoesGrant bus node manager a text)
grants bus node manager a text = accesses (put_look node None bus) manager (a (seen_by node manager bus)) text

looks : (bus : Bus) (node manager : NodeNumber) → HasAnswer (Looks bus node manager)
looks bus node manager = known (Ok (put_look node (Some (seen_of (values_at manager bus))) bus, []))

-- ---- the commands

pub some-answer : ComponentsExist → QuietWorldsHaveTexts → ReportedTreesAreManaged → MapsHaveTexts →
    CommandsHaveAnswers
some-answer components texts trees all-maps bus (Node name ports speed link contender force power gap gap_reset hold short long word len seed packed) h p = known (Err Kind.Late)
some-answer components texts trees all-maps bus (Delay delay) h p = known (Err Kind.Late)
some-answer components texts trees all-maps bus (Times standard nanoseconds) h p = known (Err Kind.Late)
some-answer components texts trees all-maps bus (Clock name ppm first) h p = known (Err Kind.Late)
some-answer components texts trees all-maps bus (Plug a a_port b b_port) h p =
    named bus a _ (λ i. named bus b _ (λ j. acts components bus (act.Plug (end_of i a_port) (end_of j b_port)) h.reached))
some-answer components texts trees all-maps bus (Pull name port) h p = named bus name _ (λ node. acts components bus (act.Pull (end_of node port)) h.reached)
some-answer components texts trees all-maps bus (Reset name) h p = named bus name _ (λ node. acts components bus (act.Reset node) h.reached)
some-answer components texts trees all-maps bus (Turn count) h p = within bus count _ (known (Ok (record bus { world = turns_after count bus.world }, [])))
some-answer components texts trees all-maps bus (Hold name port turns) h p = named bus name _ (λ node. holds bus (end_of node port) turns)
some-answer components texts trees all-maps bus Settle h p = settles texts bus h
some-answer components texts trees all-maps bus (Config name root_id gap) h p =
    named bus name _ (λ node. settled trees bus h node _ (λ tree m. acts components bus (config_of node root_id gap) h.reached))
some-answer components texts trees all-maps bus (CsrRead name offset) h p =
    managed trees bus h name _ (λ node id manager. accesses bus manager (access.Read offset) (csr_text name))
some-answer components texts trees all-maps bus (CsrWrite name offset value) h p =
    managed trees bus h name _ (λ node id manager. accesses bus manager (access.Write offset value) (csr_text name))
some-answer components texts trees all-maps bus (CsrLock name offset kind arg value) h p =
    managed trees bus h name _ (λ node id manager. accesses bus manager (access.Lock offset kind arg value) (csr_text name))
some-answer components texts trees all-maps bus (Look name) h p =
    managed trees bus h name _ (λ node id manager. looks bus node manager)
some-answer components texts trees all-maps bus (Allocate name channel units) h p =
    managed trees bus h name _ (λ node id manager. grants bus node manager (λ seen. access.Allocate seen channel units) (grant_text (codes "allocate ") name))
some-answer components texts trees all-maps bus (Release name channel units) h p =
    managed trees bus h name _ (λ node id manager. grants bus node manager (λ seen. access.Release seen channel units) (grant_text (codes "release ") name))
some-answer components texts trees all-maps bus (Manager name) h p =
    managed trees bus h name _ (λ node id manager. accesses bus manager (lock_for id) (bid_text name))
some-answer components texts trees all-maps bus (Plan name) h p = absurd p
some-answer components texts trees all-maps bus (Maps name) h p = named bus name _ (λ node. settled trees bus h node _ (λ tree m. maps trees bus h all-maps tree m))

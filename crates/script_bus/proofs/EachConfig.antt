-- A configuration packet comes out where the bus settles next.
use Rattle.std.proofs.Common.{◌≡◌, ◌+◌, ◌++◌, ◌∷◌, ◌<◌, ◌≤◌, inl, inr, ℕ, suc, Bool, true, false, List, [], Option, Some, None, IfSome, length, slice_get, refl, sym, subst, ◌∙◌, ap, arith}
use Rattle.std.specs.Prelude.{Ok, Err, Any, All, MatchBool, nat_lt, unwrap_or, is_some}
use Rattle.std.specs.Str.{bytes_eq}
use Rattle.std.proofs.lemmas.List.Quantifiers.{position-Some}
use Rattle.std.proofs.lemmas.Option.{slice_get_cases, slice_get_within}
use Rattle.topology_stack.specs.Tree.{Tree}
use Rattle.topology_stack.specs.OneAnswer.{NoListHasTwoTrees}
use Rattle.cabling.specs.Wiring.{Wiring}
use Rattle.cabling.specs.NodeSet.{Holds}
use Rattle.cabling.specs.Component.{IsComponent}
use Rattle.cabling.specs.Existence.{HasComponent, ComponentsExist}
use Rattle.cabling.proofs.Lemmas.{Loopless, loopless, shared}
use Rattle.port_state.specs.Config.{config_packet, gap_or}
use Rattle.port_state.specs.Machine.{PortNode, node_disturb, node_set_config}
use Rattle.cable_world.specs.declared.act.Act.TheVariants.{Config}
use Rattle.cable_world.specs.World.{CableWorld, NodeNumber}
use Rattle.cable_world.specs.Act.{IsAct, ActLeads, act_fault, change_in_set}
use Rattle.cable_world.specs.Unchanged.{ActKeepsNodes}
use Rattle.cable_world.specs.Lawful.{IsLawful}
use Rattle.cable_world.specs.Phases.{is_in_bus_reset}
use Rattle.cable_world.specs.Outcome.{IsTree, AtView}
use Rattle.cable_world.specs.Run.{IsReached, Rests, still}
use Rattle.cable_world.specs.Events.{turn_count}
use Rattle.cable_world.proofs.Lemmas.{some-of, some-at, quiet-run, rests-slack, rests-then, turns-rest, reached-comes, reached-lawful, act-reached, step-cables, after-cabling, after-length, after-delay, after-longest}
use Rattle.convergence.specs.Turns.{slack, turns_to_settle}
use Rattle.outcomes.specs.Forced.{NamesRoot}
use Rattle.outcomes.specs.Settled.{TreesStay, IdsNameOneNode, ConfigsMoveRoots, PacketsSetGaps}
use Rattle.outcomes.proofs.Lemmas.{ComesBy, comes-by, reached-enough}
use Rattle.settle.specs.declared.report.Part.{Part}
use Rattle.settle.specs.Report.{AreParts, IsTreeFrom, IsAfterQuiet, quiet_turns_of}
use Rattle.settle.proofs.Lemmas.{found, same-component, turns-enough}
use Rattle.settle.specs.Planned.{HaveGap}
use Rattle.script_lines.specs.Range.{IsConfigInRange, IsInRange}
use Rattle.script_lines.specs.declared.kind.Kind.{Kind}
use Rattle.script_lines.specs.declared.command.Command.{Command}
use Rattle.script_lines.specs.declared.command.Command.TheVariants as command
use Rattle.script_text.specs.ReportText.{Names, IsReportText}
use Rattle.script_told.specs.Bus.{Bus, Notes, ReportedTree, node_named, tree_with}
use Rattle.script_told.specs.Step.{LineAnswer, AtNamedNode, AtTree, Settled, Acts, Reports, Does, config_of, node_with}
use Rattle.script_told.specs.Script.{Stage, fresh, StageAnswer, running, bus_of, ranges_of, onwards, DoesAtStage}
use Rattle.script_told.specs.Run.{Entry}
use Rattle.script_told.specs.SomeAnswer.{IsReachedBus}
use Rattle.script_told.specs.ScriptEvents.{Declares, LeavesAlone, RunsOn}
use Rattle.script_told.specs.PrintedTree.{PrintsGap, PrintsTree}
use Rattle.script_told.proofs.Lemmas.{prints-gap, prints-tree, config-act, stage-in, printed-in, sound-bus, IsDone, each-done, runs-on}
use Rattle.script_bus.specs.codings.Standing.{StandsAs}
use Rattle.script_bus.specs.EachConfig.{ConfigComesOut, EachConfigComesOut}
use Rattle.script_bus.proofs.Standing.{reported-stands}
use Rattle.script_bus.proofs.Planning.{holds-its, its-there, its-id}
use Rattle.script_bus.proofs.SomePlan.{stands-since}
use Rattle.script_bus.proofs.FollowOn.{LeadsOn, leads-on, leads-behind, at-split, behind-split, front-split}

-- ---- the world that settled

same-share :
    (a b : CableWorld) → length a.nodes ≡ length b.nodes → a.delay ≡ b.delay →
    a.longest ≡ b.longest → slack a ≡ slack b → turns_to_settle a ≡ turns_to_settle b
same-share a b nodes delay longest spare = rw (nodes, delay, longest, spare) refl

-- a packet is sent in a tree, time passes, and the bus settles
module _
    (keeps : ActKeepsNodes) (names-one : IdsNameOneNode) (moves : ConfigsMoveRoots)
    (sets : PacketsSetGaps) (w sent u v : CableWorld) (reached : IsReached w) (from : NodeNumber)
    (there : from < length w.cabling) (tree : ReportedTree) (s : StandsAs w from tree) (id : ℕ)
    (force : Bool)
    (gap : Option ℕ) (fits : IsAct (Config from id force gap))
    (accepted : act_fault (Config from id force gap) w ≡ None)
    (act : ActLeads (Config from id force gap) w sent) (j : ℕ) (rests : Rests j sent u)
    (quiet : IsAfterQuiet u v) where
  l : IsLawful w
  l = reached-lawful w reached

  sent-reached : IsReached sent
  sent-reached = act-reached (Config from id force gap) w sent (fits, accepted, act) reached

  sent-lawful : IsLawful sent
  sent-lawful = reached-lawful sent sent-reached

  abbrev given : ℕ
  given = j + quiet_turns_of u

  by-turns : ComesBy sent v given
  by-turns =
      comes-by (rests-then rests
      (subst (Rests (quiet_turns_of u) u) (sym quiet) (turns-rest (quiet_turns_of u) u)))

  cables : v.cabling ≡ w.cabling
  cables =
      let told : CableWorld = record w { nodes = change_in_set act.0 (node_set_config (config_packet id force gap)) 0 w.nodes } in
      ap (λ (x : CableWorld). x.cabling) by-turns.is ∙ after-cabling by-turns.schedule given sent
      ∙ ap (λ (x : CableWorld). x.cabling) act.2 ∙ step-cables from node_disturb told

  nodes-stay : length v.nodes ≡ length w.nodes
  nodes-stay =
      ap (λ (x : CableWorld). length x.nodes) by-turns.is ∙ after-length by-turns.schedule sent sent-lawful given
      ∙ keeps (Config from id force gap) w sent act

  enough : turns_to_settle sent ≤ given
  enough =
      let c : ComesBy sent u j = comes-by rests in
      let same : turns_to_settle u ≡ turns_to_settle sent = same-share u sent
      (ap (λ (x : CableWorld). length x.nodes) c.is ∙ after-length c.schedule sent sent-lawful j)
      (ap (λ (x : CableWorld). x.delay) c.is ∙ after-delay c.schedule sent sent-lawful j)
      (ap (λ (x : CableWorld). x.longest) c.is ∙ after-longest c.schedule sent sent-lawful j)
      (rests-slack rests sent-reached) in
      omega (arith, same, turns-enough u)

  calm : (k : ℕ) → Holds s.set k → AtView w k (λ x. is_in_bus_reset x.phase ≡ false)
  calm =
      let x = some-of (slice_get w.nodes tree.root) _ (s.stands.is.ids tree.root s.stands.is.holds_root) in
      let i = some-of x.0.state.view.id _ x.2 in
      (names-one w s.set tree.root tree.root i.0 s.stands.tree (reached-comes w reached) s.stands.is s.stands.is.holds_root
      (some-at (slice_get w.nodes tree.root) x.0 (λ (y : PortNode). y.state.view.id ≡ Some i.0) x.1 i.1)).calm

  -- ---- gap counts

  gap-at : (g : ℕ) → gap ≡ Some g → HaveGap v from g
  gap-at g was other k is m = elim (slice_get_cases v.nodes k).1 [
    | inl y ↦ some-at (slice_get v.nodes k) y.0 (λ (z : PortNode). z.state.view.gap ≡ g) y.2 (given-gap y.0 y.2)
    | inr lacks ↦ absurd (omega (arith, lacks.0, nodes-stay, slice_get_within w.nodes k stood.0 stood.1))
  ]
    where
      here : Holds s.set k
      here = (same-component w.cabling from other s.set (subst (λ (c : Wiring). IsComponent c from other) cables is) s.component).0 k m

      stood : (x : PortNode) × (slice_get w.nodes k ≡ Some x)
      stood = let x = some-of (slice_get w.nodes k) _ (s.stands.is.ids k here) in (x.0, x.1)

      given-gap : (y : PortNode) → slice_get v.nodes k ≡ Some y → y.state.view.gap ≡ g
      given-gap y at =
          sets by-turns.schedule w sent given from id force gap s.set k stood.0 y (reached-comes w reached) fits accepted
          (record { act = act; component = s.component; calm = calm }) (omega (arith, enough)) here stood.1
          (ap (λ (x : CableWorld). slice_get x.nodes k) (sym by-turns.is) ∙ at)
          ∙ ap (λ (o : Option ℕ). gap_or o stood.0.state.view.next_gap) was

  pub gaps : (o : Option ℕ) → gap ≡ o → IfSome o (HaveGap v from)
  gaps None was = tt
  gaps (Some g) was = gap-at g was

-- with R set, and an ID of the tree
module _
    (keeps : ActKeepsNodes) (names-one : IdsNameOneNode) (moves : ConfigsMoveRoots)
    (sets : PacketsSetGaps) (w sent u v : CableWorld) (reached : IsReached w) (from : NodeNumber)
    (there : from < length w.cabling) (tree : ReportedTree) (s : StandsAs w from tree) (id : ℕ)
    (gap : Option ℕ) (fits : IsAct (Config from id true gap))
    (accepted : act_fault (Config from id true gap) w ≡ None)
    (act : ActLeads (Config from id true gap) w sent) (j : ℕ) (rests : Rests j sent u)
    (quiet : IsAfterQuiet u v) (place : id < length tree.order) where
  abbrev root : NodeNumber
  root = node_with tree id

  lawful : IsLawful w
  lawful = reached-lawful w reached

  inside : Holds s.set root
  inside = holds-its w lawful from tree s id place

  names-root : NamesRoot w sent from id gap s.set root
  names-root = record {
    act = act;
    component = s.component;
    named = names-one w s.set tree.root root id s.stands.tree (reached-comes w reached) s.stands.is inside (its-id w lawful from tree s id place).named;
  }

  moved : (t : Tree) × IsTree v s.set root t
  moved =
      let c = by-turns keeps names-one moves sets w sent u v reached from there tree s id true gap fits accepted act j rests quiet in
      let k : ℕ = j + quiet_turns_of u in
      let on = sent-reached keeps names-one moves sets w sent u v reached from there tree s id true gap fits accepted act j rests quiet in
      let t = moves c.schedule w sent k from id gap s.set root (reached-comes w reached) fits accepted names-root (reached-enough sent root on) s.stands.is.no_loop
      (enough keeps names-one moves sets w sent u v reached from there tree s id true gap fits accepted act j rests quiet) in
      (t.0, subst (λ (x : CableWorld). IsTree x s.set root t.0) (sym c.is) t.1)

  no-loop : Loopless w.cabling root s.set
  no-loop =
      let n = s.stands.is.no_loop in
      loopless w.cabling root s.set n.core lawful.well_formed.cabling (its-there w lawful from tree s id place)
      (shared w.cabling from root s.set lawful.well_formed.cabling s.component inside) s.small n.is_core n.empty

  pub tree-from : (parts : List Part) → AreParts v parts →
      Any (IsTreeFrom w.cabling from root) parts
  tree-from parts are =
      found w.cabling v (cables keeps names-one moves sets w sent u v reached from there tree s id true gap fits accepted act j rests quiet) from s.set root s.component no-loop there (IsReached w) ∣ reached ∣₁ (λ r. moved) parts are

-- ---- the packet that was sent

record IsSent (bus : Bus) (name : List ℕ) (id gap : Option ℕ) (sent : Bus) : Type 0 where
  node : NodeNumber
  named : node_named bus.notes.names name ≡ Some node
  tree : ReportedTree
  settled : tree_with node bus.notes ≡ Some tree
  accepted : act_fault (config_of node id gap) bus.world ≡ None
  act : ActLeads (config_of node id gap) bus.world sent.world

module _ (bus : Bus) (name : List ℕ) (id gap : Option ℕ) (sent : Bus) (text : List ℕ) where
  abbrev sends : LineAnswer
  sends = Ok (sent, text)

  no-fault : (kind : Kind) → sends ≡ Err kind → IsSent bus name id gap sent
  no-fault kind e = absurd cc

  abbrev Sends : NodeNumber → ReportedTree → LineAnswer → Type 0
  Sends node tree r = Acts bus (config_of node id gap) r

  with-tree :
      (node : NodeNumber) → node_named bus.notes.names name ≡ Some node →
      (o : Option ReportedTree) → tree_with node bus.notes ≡ o →
      AtTree o (Sends node) sends → IsSent bus name id gap sent
  with-tree node named None e x = no-fault Kind.NotSettled x
  with-tree node named (Some tree) e x =
      record { node = node; named = named; tree = tree; settled = e; accepted = x.0; act = x.1 }

  with-node :
      (o : Option NodeNumber) → node_named bus.notes.names name ≡ o → AtNamedNode o (λ node. Settled bus node (Sends node)) sends →
      IsSent bus name id gap sent
  with-node None e x = no-fault Kind.NoNode x
  with-node (Some node) e x = with-tree node e (tree_with node bus.notes) refl x

  packet-sent : Does bus (command.Config name id gap) sends → IsSent bus name id gap sent
  packet-sent x = with-node (node_named bus.notes.names name) refl x

-- a bus that has settled was reported
pub reports-of : (bus after : Bus) (text : List ℕ) → Does bus command.Settle (Ok (after, text)) →
    Reports bus (Ok (after, text))
reports-of bus after text x = go (nat_lt 2000000 (bus.world.turns + quiet_turns_of bus.world)) x
  where
    go :
        (b : Bool) → MatchBool b (◌≡◌ {A = LineAnswer} (Ok (after, text)) (Err Kind.TooManyTurns)) (Reports bus (Ok (after, text))) →
        Reports bus (Ok (after, text))
    go true y = absurd cc
    go false y = y

-- ---- the bus that a command left

pub record Leaves (bus : Bus) (c : Command) (next : Stage) (told : List ℕ) : Type 0 where
  pub after : Bus
  pub text : List ℕ
  pub does : Does bus c (Ok (after, text))
  pub next_is : next ≡ running after
  pub text_is : told ≡ text

pub by-answer :
    (bus : Bus) (c : Command) (next : Stage) (t : List ℕ) (r : LineAnswer) → Does bus c r →
    ◌≡◌ {A = StageAnswer} (Ok (next, t)) (onwards r) → Leaves bus c next t
by-answer bus c next t (Ok (after, text)) does same = record { after = after; text = text; does = does; next_is = ap stage-in same; text_is = ap printed-in same }
by-answer bus c next t (Err kind) does same = absurd cc

-- ---- time passes

-- the bus that runs from one stage comes of that of another by holds and turns
record PassesTo (w : CableWorld) (names : Names) (stage : Stage) : Type 0 where
  turns : ℕ
  rests : Rests turns w (bus_of stage).world
  same : (bus_of stage).notes.names ≡ names

not-declared : (c : Command) → LeavesAlone c → Declares c → ⊥
not-declared (command.Node name ports speed link contender force power gap gap_reset hold short long word len seed packed) h d = h
not-declared (command.Delay delay) h d = h
not-declared (command.Times standard nanoseconds) h d = h
not-declared (command.Clock name ppm first) h d = h
not-declared c h d = d

passes :
    (entries : List Entry) (from : Stage) (two : Entry) (rest : List Entry) →
    All IsDone entries → All (λ (e : Entry). LeavesAlone e.command) entries →
    LeadsOn from (entries ++ two ∷ rest) → PassesTo (bus_of from).world (bus_of from).notes.names two.before
passes [] from two rest done alone leads =
    subst (PassesTo (bus_of from).world (bus_of from).notes.names) (sym leads.0) (record { turns = 0; rests = still; same = refl })
passes (e ∷ entries) from two rest done alone leads =
    let quiet : LeavesAlone e.command = alone 0 e (omega arith) in
    let r : RunsOn e = runs-on e (done 0 e (omega arith)) (not-declared e.command quiet) in
    let next = passes entries e.after two rest (λ i d inside. done (suc i) d (omega (arith, inside))) (λ i d inside. alone (suc i) d (omega (arith, inside))) leads.1 in
    let at : bus_of e.after ≡ r.after = ap bus_of r.is in
    let first : Rests (turn_count r.does.events) (bus_of e.before).world (bus_of e.after).world =
    subst (λ (b : Bus). Rests (turn_count r.does.events) (bus_of e.before).world b.world) (sym at)
    (quiet-run r.does.events (bus_of e.before).world r.after.world (r.does.alone quiet) r.does.run) in
    subst (λ (g : Stage). PassesTo (bus_of g).world (bus_of g).notes.names two.before) leads.0 (record {
      turns = turn_count r.does.events + next.turns;
      rests = rests-then first next.rests;
      same = next.same ∙ ap (λ (b : Bus). b.notes.names) at ∙ r.does.names;
    })

-- ---- it comes out

module _
    (trees : NoListHasTwoTrees) (keeps : ActKeepsNodes) (stay : TreesStay) (components : ComponentsExist)
    (names-one : IdsNameOneNode) (moves : ConfigsMoveRoots) (sets : PacketsSetGaps) where
  module _
      (bus sent now after : Bus) (h : IsReachedBus bus) (name : List ℕ) (id gap : Option ℕ) (range : IsConfigInRange id gap)
      (c : IsSent bus name id gap sent) (j : ℕ) (rests : Rests j sent.world now.world)
      (text : List ℕ) (is : Reports now (Ok (after, text))) where
    abbrev w : CableWorld
    w = bus.world

    formed : IsLawful w
    formed = reached-lawful w h.reached

    there : c.node < length w.cabling
    there =
        let at = position-Some (bytes_eq name) bus.notes.names c.node [] c.named in
        omega (arith, at.0, h.named, formed.well_formed.count)

    k : HasComponent w.cabling c.node
    k = components w.cabling c.node formed.well_formed.cabling there

    s : StandsAs w c.node c.tree
    s = reported-stands stay w c.node k.set k.is k.small bus.notes (stands-since w bus.notes.report h.reported) c.tree c.settled

    fits : IsAct (config_of c.node id gap)
    fits = config-act c.node id gap range

    prints :
        (i : ℕ) → id ≡ Some i → i < length c.tree.order →
        PrintsTree w.cabling c.node (node_with c.tree i) after text
    prints i e place =
        let f : IsAct (Config c.node i true gap) = subst (λ o. IsAct (config_of c.node o gap)) e fits in
        let a : act_fault (Config c.node i true gap) w ≡ None = ap (λ o. act_fault (config_of c.node o gap) w) (sym e) ∙ c.accepted in
        let x : ActLeads (Config c.node i true gap) w sent.world = subst (λ o. ActLeads (config_of c.node o gap) w sent.world) e c.act in
        prints-tree w.cabling c.node (node_with c.tree i) after is.0 text [] after.notes.reports (ap (λ (n : Notes). n.report) is.3)
        (tree-from keeps names-one moves sets w sent.world now.world after.world h.reached c.node there c.tree s i gap f a x j rests is.1 place is.0.parts is.2.parts)
        (subst (λ (ns : Names). IsReportText ns after.notes.reports is.0 text) (sym (ap (λ (n : Notes). n.names) is.3)) is.4)

    root-printed :
        (o : Option ℕ) → id ≡ o →
        IfSome o (λ i. i < length c.tree.order → PrintsTree w.cabling c.node (node_with c.tree i) after text)
    root-printed None e = tt
    root-printed (Some i) e = prints i e

    have : IfSome gap (HaveGap after.world c.node)
    have = gaps keeps names-one moves sets w sent.world now.world after.world h.reached c.node there c.tree s (unwrap_or id 0) (is_some id) gap fits c.accepted c.act j rests is.1 gap refl

    in-lines : IsReachedBus after → (o : Option ℕ) → IfSome o (HaveGap after.world c.node) → IfSome o (PrintsGap after c.node)
    in-lines left None e = tt
    in-lines left (Some g) e = prints-gap trees after left is.0 (ap (λ (n : Notes). n.report) is.3) is.2.parts c.node g e

  comes :
      (one two : Entry) (name : List ℕ) (id gap : Option ℕ) → IsDone one → IsDone two →
      PassesTo (bus_of one.after).world (bus_of one.after).notes.names two.before →
      one.command ≡ command.Config name id gap → two.command ≡ command.Settle → ConfigComesOut one two name id gap
  comes one two name id gap first next time config settle =
      let f : DoesAtStage one.before (command.Config name id gap) (Ok (one.after, one.text)) =
      subst (λ (c : Command). DoesAtStage one.before c (Ok (one.after, one.text))) config
      first.follows in
      let g : DoesAtStage two.before command.Settle (Ok (two.after, two.text)) =
      subst (λ (c : Command). DoesAtStage two.before c (Ok (two.after, two.text))) settle
      next.follows in
      let range : IsConfigInRange id gap =
      subst (IsInRange (ranges_of one.before)) config first.range in
      let a = by-answer (bus_of one.before) (command.Config name id gap) one.after one.text f.0 f.1 f.2 in
      let b = by-answer (bus_of two.before) command.Settle two.after two.text g.0 g.1 g.2 in
      let c = packet-sent (bus_of one.before) name id gap a.after a.text a.does in
      let at : bus_of one.after ≡ a.after = ap bus_of a.next_is in
      let rests : Rests time.turns a.after.world (bus_of two.before).world =
      subst (λ (u : Bus). Rests time.turns u.world (bus_of two.before).world) at time.rests in
      let r : Reports (bus_of two.before) (Ok (b.after, b.text)) = reports-of (bus_of two.before) b.after b.text b.does in
      let h : IsReachedBus (bus_of one.before) = sound-bus one.before first.sound in
      record {
        node = c.node;
        named = c.named;
        tree = c.tree;
        settled = c.settled;
        after = b.after;
        after_is = b.next_is;
        root =
            subst (λ t. IfSome id (λ i. i < length c.tree.order → PrintsTree (bus_of one.before).world.cabling c.node (node_with c.tree i) b.after t)) (sym b.text_is)
            (root-printed (bus_of one.before) a.after (bus_of two.before) b.after h name id gap range c time.turns rests b.text r id refl);
        gaps = have (bus_of one.before) a.after (bus_of two.before) b.after h name id gap range c time.turns rests b.text r;
        lines =
            in-lines (bus_of one.before) a.after (bus_of two.before) b.after h name id gap range c time.turns rests b.text r
            (subst (λ (s : Stage). IsReachedBus (bus_of s)) b.next_is (sound-bus two.after next.left)) gap
            (have (bus_of one.before) a.after (bus_of two.before) b.after h name id gap range c time.turns rests b.text r);
      }

  pub each-config : EachConfigComesOut
  each-config bytes run x one two name id gap next config =
      let all : All IsDone (next.before ++ one ∷ (next.between ++ two ∷ next.rest)) =
      subst (All IsDone) next.split (each-done trees keeps bytes run x).each in
      let behind : All IsDone (next.between ++ two ∷ next.rest) = behind-split IsDone next.before (next.between ++ two ∷ next.rest) one all in
      let leads : LeadsOn one.after (next.between ++ two ∷ next.rest) =
      leads-behind fresh next.before (next.between ++ two ∷ next.rest) one (subst (LeadsOn fresh) next.split (leads-on bytes run x)) in
      comes one two name id gap (at-split IsDone next.before (next.between ++ two ∷ next.rest) one all) (at-split IsDone next.between next.rest two behind)
      (passes next.between one.after two next.rest (front-split IsDone next.between (two ∷ next.rest) behind) next.alone leads) config next.settles

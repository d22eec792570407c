-- Maps of one tree are shown by one text, and the tree stands while the report does.
use Rattle.std.proofs.Common.{◌≡◌, ◌<◌, ◌+◌, ◌++◌, ◌∷◌, ℕ, zero, suc, Bool, true, false, List, [], Option, Some, None, length, slice_get, refl, sym, subst, ◌∙◌, ap, arith}
use Rattle.std.specs.Option.{option_and_then}
use Rattle.std.specs.Prelude.{Ok, Err, All, MatchBool, nat_lt, codes}
use Rattle.std.proofs.lemmas.List.Elements.{All-head, All-tail}
use Rattle.self_id.specs.declared.standard.Standard.TheVariants.{Ieee2000}
use Rattle.topology_stack.specs.Tree.{Tree}
use Rattle.topology_stack.specs.OneAnswer.{NoListHasTwoTrees}
use Rattle.cabling.specs.declared.cable.CableFault.{CableFault}
use Rattle.cabling.specs.declared.cable.End.{End}
use Rattle.cabling.specs.Wiring.{Wiring, ports_of}
use Rattle.cabling.specs.Component.{IsComponent}
use Rattle.cabling.specs.Existence.{HasComponent, ComponentsExist}
use Rattle.port_state.specs.Heard.{is_resetting}
use Rattle.port_state.specs.Machine.{PortNode, beat}
use Rattle.cable_world.specs.Times.{Suits}
use Rattle.cable_world.specs.Lawful.{IsLawful}
use Rattle.cable_world.specs.Outcome.{IsTree}
use Rattle.cable_world.specs.Phases.{is_in_bus_reset}
use Rattle.cable_world.specs.Run.{IsReached, still, hold_first, turn_first}
use Rattle.convergence.proofs.Lemmas.{not-waiting}
use Rattle.cable_world.proofs.Lemmas.{reached-lawful, reached-comes, turn-reached, hold-reached, hears, ticks, turn-counts, node-after, cabling-after, some-of, some-at, some-same}
use Rattle.outcomes.specs.Settled.{TreesStay, IdsNameOneNode}
use Rattle.script_told.specs.SomeAnswer.{IsReachedBus}
use Rattle.script_told.proofs.Lemmas.{sound-bus, stage-in, printed-in, IsDone, each-done}
use Rattle.script_bus.specs.codings.Standing.{StandsAs}
use Rattle.script_bus.proofs.SomePlan.{stands-since}
use Rattle.script_bus.proofs.Standing.{reported-stands}
use Rattle.std.specs.Str.{bytes_eq}
use Rattle.std.proofs.lemmas.List.Quantifiers.{position-Some}
use Rattle.cable_world.specs.World.{CableWorld, NodeNumber}
use Rattle.cable_world.specs.Act.{hold, hold_fault}
use Rattle.cable_world.specs.Turn.{inbox, turn, turns_after}
use Rattle.cable_world.specs.Unchanged.{ActKeepsNodes}
use Rattle.settle.specs.declared.report.Report.{Report}
use Rattle.resource_manager.specs.declared.access.Access.{Access}
use Rattle.resource_manager.specs.declared.access.Access.TheVariants as access
use Rattle.resource_manager.specs.declared.access.Answer.{Answer}
use Rattle.resource_manager.specs.declared.grant.Seen.{Seen}
use Rattle.resource_manager.specs.Access.{answer_of}
use Rattle.resource_manager.specs.Channel.{seen_of}
use Rattle.bus_manager.specs.Election.{lock_for}
use Rattle.script_text.specs.CommandText.{csr_text, grant_text, bid_text}
use Rattle.script_lines.specs.declared.kind.Kind.{Kind}
use Rattle.script_lines.specs.declared.command.Command.{Command}
use Rattle.script_lines.specs.declared.command.Command.TheVariants.{Node, Plug, Pull, Reset, Turn, Hold, Settle, Config, CsrRead, CsrWrite, CsrLock, Look, Allocate, Release, Manager, Plan, Maps, Delay, Times, Clock}
use Rattle.script_lines.specs.Refusal.{kind_of}
use Rattle.script_text.specs.Maps.{IsMapsText}
use Rattle.script_text.proofs.Lemmas.{same_maps}
use Rattle.script_told.specs.Bus.{Bus, ReportedTree, node_named, resets_shown, resets_of, tree_of, part_with, tree_with, values_at, after_access, put_look}
use Rattle.script_told.specs.Step.{LineAnswer, AtNamedNode, Named, AtTree, Settled, AtManager, Managed, HoldsWire, Turns, MapsOf, GivesMaps, ShowsMaps, Accesses, Looks, DoesGrant, seen_by, Does, id_of, end_of}
use Rattle.script_told.specs.Script.{Stage, fresh, StageAnswer, running, bus_of, onwards, DoesAtStage}
use Rattle.script_told.specs.Run.{Entry}
use Rattle.script_bus.specs.EachMaps.{KeepsReport, StandsIn, MapsShowOneTree}
use Rattle.script_bus.proofs.FollowOn.{LeadsOn, leads-on, at-split, behind-split, leads-behind}

-- ---- counts of resets

-- a tree of a reached world stands in the next world, and its root counts as many resets
record Again (w v : CableWorld) (node set root : ℕ) (t : Tree) : Type 0 where
  reached : IsReached v
  component : IsComponent v.cabling node set
  tree : IsTree v set root t
  counts : resets_of v root ≡ resets_of w root

abbrev KeepsTrees : CableWorld → CableWorld → Type 0
KeepsTrees w v = (node set root : ℕ) (t : Tree) → IsReached w → IsComponent w.cabling node set → IsTree w set root t → Again w v node set root t

no-turn : (w : CableWorld) → KeepsTrees w w
no-turn w node set root t r c is = record { reached = r; component = c; tree = is; counts = refl }

one-and-next : (w u v : CableWorld) → KeepsTrees w u → KeepsTrees u v → KeepsTrees w v
one-and-next w u v a b node set root t r c is =
    let x = a node set root t r c is in
    let y = b node set root t x.reached x.component x.tree in
    record { reached = y.reached; component = y.component; tree = y.tree; counts = y.counts ∙ x.counts }

module _ (stay : TreesStay) (names-one : IdsNameOneNode) where
  -- the root of a tree isn't being reset
  calm : (w : CableWorld) (set root : ℕ) (t : Tree) → IsReached w → IsTree w set root t →
      (x : PortNode) → slice_get w.nodes root ≡ Some x → is_resetting x.state.view.phase ≡ false
  calm w set root t r is x at =
      let y = some-of (slice_get w.nodes root) _ (is.ids root is.holds_root) in
      let id = some-of y.0.state.view.id _ y.2 in
      let alone = names-one w set root root id.0 t (reached-comes w r) is is.holds_root (some-at (slice_get w.nodes root) y.0 (λ (n : PortNode). n.state.view.id ≡ Some id.0) y.1 id.1) in
      let z = some-of (slice_get w.nodes root) _ (alone.calm root is.holds_root) in
      not-waiting x.state.view.phase (ap (λ (n : PortNode). is_in_bus_reset n.state.view.phase) (some-same x z.0 (sym at ∙ z.1)) ∙ z.2)

  counts-in-turn :
      (w : CableWorld) → IsLawful w → (j : ℕ) (x y : PortNode) → slice_get w.nodes j ≡ Some x → slice_get (turn w).nodes j ≡ Some y →
      is_resetting y.state.view.phase ≡ false → y.state.view.resets ≡ x.state.view.resets
  counts-in-turn w l j x y at_x at_y unmoved =
      let range : Suits w.delay w.longest x.state.timing = (l.well_formed.nodes j x at_x).timing in
      let is = some-same _ y (sym (node-after w j x l.well_formed.count at_x) ∙ at_y) in
      sym (ap (λ (z : PortNode). z.state.view.resets) is)
      ∙ turn-counts (inbox w 0 (ports_of w.cabling j)) (beat x) x.state
      (omega (arith, range.hold_least, l.well_formed.some_delay)) (omega (arith, range.hold_most, range.counted.hold))
      (hears w j x l.well_formed at_x) (ticks w j x l.well_formed at_x)
      (λ e. ap (λ (z : PortNode). is_resetting z.state.view.phase) is ∙ unmoved)

  one-turn : (w : CableWorld) → KeepsTrees w (turn w)
  one-turn w node set root t r c is =
      let after : IsTree (turn w) set root t = stay w (turn w) 1 node set root t (reached-comes w r) (turn_first still) c is in
      let reached : IsReached (turn w) = turn-reached w r in
      let x = some-of (slice_get w.nodes root) _ (is.ids root is.holds_root) in
      let y = some-of (slice_get (turn w).nodes root) _ (after.ids root after.holds_root) in
      record {
        reached = reached;
        component = subst (λ (d : Wiring). IsComponent d node set) (sym (cabling-after w)) c;
        tree = after;
        counts =
            ap resets_shown y.1
            ∙ counts-in-turn w (reached-lawful w r) root x.0 y.0 x.1 y.1 (calm (turn w) set root t reached after y.0 y.1)
            ∙ sym (ap resets_shown x.1);
      }

  in-turns : (k : ℕ) (w : CableWorld) → KeepsTrees w (turns_after k w)
  unfolding turns_after
  in-turns zero w = no-turn w
  in-turns (suc k) w = one-and-next w (turn w) (turns_after k (turn w)) (one-turn w) (in-turns k (turn w))

  in-hold : (end : End) (n : ℕ) (w : CableWorld) → hold_fault end w ≡ None → KeepsTrees w (hold end n w)
  in-hold end n w none node set root t r c is = record {
    reached = hold-reached end n w none r;
    component = c;
    tree = stay w (hold end n w) 0 node set root t (reached-comes w r) (hold_first end n none still) c is;
    counts = refl;
  }

-- ---- what keeps the report

record Keeps (bus after : Bus) : Type 0 where
  report : after.notes.report ≡ bus.notes.report
  names : after.notes.names ≡ bus.notes.names
  trees : KeepsTrees bus.world after.world

no-change : (bus : Bus) → Keeps bus bus
no-change bus = record { report = refl; names = refl; trees = no-turn bus.world }

both : (a b c : Bus) → Keeps a b → Keeps b c → Keeps a c
both a b c x y = record {
  report = y.report ∙ x.report;
  names = y.names ∙ x.names;
  trees = one-and-next a.world b.world c.world x.trees y.trees;
}

abbrev AnswerKeeps : Bus → LineAnswer → Type 0
AnswerKeeps bus (Ok (after, text)) = Keeps bus after
AnswerKeeps bus (Err kind) = Unit {0}

module _ (stay : TreesStay) (names-one : IdsNameOneNode) (bus : Bus) where
  abbrev AllKeep : (LineAnswer → Type 0) → Type 0
  AllKeep Comes = (r : LineAnswer) → Comes r → AnswerKeeps bus r

  known : (x : LineAnswer) → AnswerKeeps bus x → AllKeep (λ r. r ≡ x)
  known x h r e = subst (AnswerKeeps bus) (sym e) h

  at-node : (o : Option NodeNumber) (Comes : NodeNumber → LineAnswer → Type 0) →
      ((k : NodeNumber) → AllKeep (Comes k)) → AllKeep (AtNamedNode o Comes)
  at-node None Comes some r e = known (Err Kind.NoNode) tt r e
  at-node (Some k) Comes some r e = some k r e

  named : (name : List ℕ) (Comes : NodeNumber → LineAnswer → Type 0) →
      ((k : NodeNumber) → AllKeep (Comes k)) → AllKeep (Named bus name Comes)
  named name Comes some = at-node (node_named bus.notes.names name) Comes some

  at-tree : (o : Option ReportedTree) (Comes : ReportedTree → LineAnswer → Type 0) →
      ((t : ReportedTree) → AllKeep (Comes t)) → AllKeep (AtTree o Comes)
  at-tree None Comes some r e = known (Err Kind.NotSettled) tt r e
  at-tree (Some t) Comes some r e = some t r e

  settled : (node : NodeNumber) (Comes : ReportedTree → LineAnswer → Type 0) →
      ((t : ReportedTree) → AllKeep (Comes t)) → AllKeep (Settled bus node Comes)
  settled node Comes some = at-tree (tree_with node bus.notes) Comes some

  at-manager : (o : Option NodeNumber) (Comes : NodeNumber → LineAnswer → Type 0) →
      ((k : NodeNumber) → AllKeep (Comes k)) → AllKeep (AtManager o Comes)
  at-manager None Comes some r e = known (Err Kind.NoManager) tt r e
  at-manager (Some k) Comes some r e = some k r e

  managed :
      (name : List ℕ) (Comes : NodeNumber → ℕ → NodeNumber → LineAnswer → Type 0) →
      ((node : NodeNumber) (id : ℕ) (k : NodeNumber) → AllKeep (Comes node id k)) → AllKeep (Managed bus name Comes)
  managed name Comes some =
      named name _ (λ node. settled node _ (λ tree r x. at-manager x.0 (Comes node (id_of tree node)) (some node (id_of tree node)) r x.2))

  by-test : (b : Bool) (Yes No : LineAnswer → Type 0) → AllKeep Yes → AllKeep No →
      AllKeep (λ r. MatchBool b (Yes r) (No r))
  by-test true Yes No one other r x = one r x
  by-test false Yes No one other r x = other r x

  gives-maps : (tree : ReportedTree) → AllKeep (GivesMaps bus tree)
  gives-maps tree (Ok (after, text)) x = record { report = ap (λ (b : Bus). b.notes.report) x.after_is; names = ap (λ (b : Bus). b.notes.names) x.after_is; trees = subst (λ (b : Bus). KeepsTrees bus.world b.world) (sym x.after_is) (no-turn bus.world) }
  gives-maps tree (Err kind) x = absurd x

  held : (end : End) (n : ℕ) → AllKeep (HoldsWire bus end n)
  held end n r x = by (hold_fault end bus.world) refl
    where
      by : (o : Option CableFault) → hold_fault end bus.world ≡ o → AnswerKeeps bus r
      by None e = known (Ok (record bus { world = hold end n bus.world }, [])) (record { report = refl; names = refl; trees = in-hold stay names-one end n bus.world e }) r (rw e at x)
      by (Some fault) e = known (Err (kind_of fault)) tt r (rw e at x)

  turned : (count : ℕ) → AllKeep (Turns bus count)
  turned count =
      by-test (nat_lt 2000000 (bus.world.turns + count)) (λ r. r ≡ Err Kind.TooManyTurns)
      (λ r. r ≡ Ok (record bus { world = turns_after count bus.world }, [])) (known (Err Kind.TooManyTurns) tt)
      (known (Ok (record bus { world = turns_after count bus.world }, [])) (record { report = refl; names = refl; trees = in-turns stay names-one count bus.world }))

  accessed : (manager : NodeNumber) (a : Access) (text : Answer → List ℕ) →
      AllKeep (Accesses bus manager a text)
  accessed manager a text = known (Ok (after_access manager a bus, text (answer_of (values_at manager bus) a))) (record { report = refl; names = refl; trees = no-turn bus.world })

  looked : (node manager : NodeNumber) → AllKeep (Looks bus node manager)
  looked node manager = known (Ok (put_look node (Some (seen_of (values_at manager bus))) bus, [])) (record { report = refl; names = refl; trees = no-turn bus.world })

  granted : (node manager : NodeNumber) (a : Seen → Access) (text : Answer → List ℕ) →
      AllKeep (DoesGrant bus node manager a text)
  granted node manager a text =
      let blind : Bus = put_look node None bus in
      let asks : Access = a (seen_by node manager bus) in
      known (Ok (after_access manager asks blind, text (answer_of (values_at manager blind) asks))) (record { report = refl; names = refl; trees = no-turn bus.world })

  keeps : (c : Command) → KeepsReport c → AllKeep (Does bus c)
  keeps (Node name ports speed link contender force power gap gap_reset holding short long word len seed packed) h = known (Err Kind.Late) tt
  keeps (Delay delay) h = known (Err Kind.Late) tt
  keeps (Times standard nanoseconds) h = known (Err Kind.Late) tt
  keeps (Clock name ppm first) h = known (Err Kind.Late) tt
  keeps (Plug a a_port b b_port) h = absurd h
  keeps (Pull name port) h = absurd h
  keeps (Reset name) h = absurd h
  keeps (Turn count) h = turned count
  keeps (Hold name port n) h = named name _ (λ node. held (end_of node port) n)
  keeps Settle h = absurd h
  keeps (Config name root_id gap) h = absurd h
  keeps (CsrRead name offset) h = managed name _ (λ node id manager. accessed manager (access.Read offset) (csr_text name))
  keeps (CsrWrite name offset value) h = managed name _ (λ node id manager. accessed manager (access.Write offset value) (csr_text name))
  keeps (CsrLock name offset kind arg value) h = managed name _ (λ node id manager. accessed manager (access.Lock offset kind arg value) (csr_text name))
  keeps (Look name) h = managed name _ (λ node id manager. looked node manager)
  keeps (Allocate name channel units) h =
      managed name _ (λ node id manager. granted node manager (λ seen. access.Allocate seen channel units) (grant_text (codes "allocate ") name))
  keeps (Release name channel units) h =
      managed name _ (λ node id manager. granted node manager (λ seen. access.Release seen channel units) (grant_text (codes "release ") name))
  keeps (Manager name) h = managed name _ (λ node id manager. accessed manager (lock_for id) (bid_text name))
  keeps (Plan name) h = absurd h
  keeps (Maps name) h = named name _ (λ node. settled node _ (λ tree.
      by-test (nat_lt bus.notes.maps 100) (GivesMaps bus tree) (λ r. r ≡ Err Kind.TooManyMaps) (gives-maps tree) (known (Err Kind.TooManyMaps) tt)))

-- ---- what a command led to

record Led (bus : Bus) (c : Command) (next : Stage) (text : List ℕ) : Type 0 where
  after : Bus
  does : Does bus c (Ok (after, text))
  next_is : next ≡ running after

by-answer :
    (bus : Bus) (c : Command) (next : Stage) (t : List ℕ) (r : LineAnswer) → Does bus c r →
    ◌≡◌ {A = StageAnswer} (Ok (next, t)) (onwards r) → Led bus c next t
by-answer bus c next t (Ok (after, text)) does same = record {
  after = after;
  does = subst (λ (u : List ℕ). Does bus c (Ok (after, u))) (sym (ap printed-in same)) does;
  next_is = ap stage-in same;
}
by-answer bus c next t (Err kind) does same = absurd cc

led : (bus : Bus) (c : Command) (next : Stage) (t : List ℕ) →
    DoesAtStage (running bus) c (Ok (next, t)) → Led bus c next t
led bus (Node name ports speed link contender force power gap gap_reset holding short long word len seed packed) next t f = absurd cc
led bus (Delay delay) next t f = absurd cc
led bus (Times standard nanoseconds) next t f = absurd cc
led bus (Clock name ppm first) next t f = absurd cc
led bus c next t f = by-answer bus c next t f.0 f.1 f.2

abbrev EachKeeps : Type 0
EachKeeps = (bus : Bus) (c : Command) (next : Stage) (t : List ℕ) → KeepsReport c → (l : Led bus c next t) → Keeps bus l.after

kept-by : TreesStay → IdsNameOneNode → EachKeeps
kept-by stay names-one bus c next t h l = keeps stay names-one bus c h (Ok (l.after, t)) l.does

-- ---- from one `maps` to the next

-- the next command behind these is done on a bus with the same report
kept-along :
    EachKeeps → (between rest : List Entry) (two : Entry) (bus : Bus) (stage : Stage) → stage ≡ running bus →
    LeadsOn stage (between ++ two ∷ rest) → All IsDone (between ++ two ∷ rest) →
    All (λ (e : Entry). KeepsReport e.command) between → (b : Bus) × (two.before ≡ running b) × Keeps bus b
kept-along kept [] rest two bus stage at on all keep = (bus, on.0 ∙ at, no-change bus)
kept-along kept (e ∷ between) rest two bus stage at on all keep =
    let is : IsDone e = All-head IsDone e (between ++ two ∷ rest) all in
    let l : Led bus e.command e.after e.text =
    led bus e.command e.after e.text (subst (λ (s : Stage). DoesAtStage s e.command
    (Ok (e.after, e.text))) (on.0 ∙ at) is.follows) in
    let k : Keeps bus l.after =
    kept bus e.command e.after e.text (All-head (λ (d : Entry). KeepsReport d.command) e between keep) l in
    let more = kept-along kept between rest two l.after e.after l.next_is on.1 (All-tail IsDone e (between ++ two ∷ rest) all)
    (All-tail (λ (d : Entry). KeepsReport d.command) e between keep) in
    (more.0, more.1, both bus l.after more.0 k more.2)

stand-again : (bus after : Bus) (name : List ℕ) (tree : ReportedTree) → Keeps bus after →
    StandsIn bus name tree → StandsIn after name tree
stand-again bus after name tree k s = record {
  node = s.node;
  named = ap (λ (ns : List (List ℕ)). node_named ns name) k.names ∙ s.named;
  settled = ap (λ (o : Option Report). option_and_then tree_of (option_and_then (part_with s.node) o)) k.report ∙ s.settled;
}

-- ---- the text of one

module _ (bus : Bus) (name : List ℕ) (tree : ReportedTree) (s : StandsIn bus name tree)
    (after : Bus) (text : List ℕ) where
  abbrev answer : LineAnswer
  answer = Ok (after, text)

  abbrev Shown : Type 0
  Shown = ShowsMaps bus tree after text

  no-fault : (kind : Kind) → answer ≡ Err kind → Shown
  no-fault kind e = absurd cc

  few : (b : Bool) → MatchBool b (GivesMaps bus tree answer) (answer ≡ Err Kind.TooManyMaps) → Shown
  few true x = x
  few false x = no-fault Kind.TooManyMaps x

  in-tree : (o : Option ReportedTree) → o ≡ Some tree → AtTree o (MapsOf bus) answer → Shown
  in-tree None e x = no-fault Kind.NotSettled x
  in-tree (Some t) e x = few (nat_lt bus.notes.maps 100)
      (subst (λ (u : ReportedTree). MapsOf bus u answer) (some-same t tree e) x)

  of-node : (o : Option NodeNumber) → o ≡ Some s.node →
      AtNamedNode o (λ node. Settled bus node (MapsOf bus)) answer → Shown
  of-node None e x = no-fault Kind.NoNode x
  of-node (Some k) e x =
      in-tree (tree_with s.node bus.notes) s.settled
      (subst (λ (n : NodeNumber). Settled bus n (MapsOf bus) answer) (some-same k s.node e) x)

  maps-shown : Does bus (Maps name) answer → Shown
  maps-shown x = of-node (node_named bus.notes.names name) s.named x

one-text :
    NoListHasTwoTrees → (bus other after next : Bus) (tree : ReportedTree) (a b : List ℕ) →
    ShowsMaps bus tree after a →
    ShowsMaps other tree next b → resets_of bus.world tree.root ≡ resets_of other.world tree.root → a ≡ b
one-text trees bus other after next tree a b x y same =
    let shown : y.shown ≡ x.shown = trees Ieee2000 y.shown x.shown y.is.bus x.is.bus (y.is.emitted ∙ sym x.is.emitted) in
    let told : IsMapsText (resets_of other.world tree.root) x.shown b =
    subst (λ (t : Tree). IsMapsText (resets_of other.world tree.root) t b) shown y.told in
    same_maps (resets_of bus.world tree.root) x.shown a b x.is.bus.bus x.told
    (subst (λ (g : ℕ). IsMapsText g x.shown b) (sym same) told)

-- the tree of a node, as it stands
tree-stands :
    TreesStay → ComponentsExist → (bus : Bus) → IsReachedBus bus →
    (name : List ℕ) (tree : ReportedTree) → (s : StandsIn bus name tree) →
    StandsAs bus.world s.node tree
tree-stands stay components bus h name tree s =
    let l : IsLawful bus.world = reached-lawful bus.world h.reached in
    let found = position-Some (bytes_eq name) bus.notes.names s.node [] s.named in
    let there : s.node < length bus.world.cabling = omega (arith, found.0, h.named, l.well_formed.count) in
    let k : HasComponent bus.world.cabling s.node = components bus.world.cabling s.node l.well_formed.cabling there in
    reported-stands stay bus.world s.node k.set k.is k.small bus.notes (stands-since bus.world bus.notes.report h.reported) tree s.settled

-- its root counts as many resets
same-count :
    TreesStay → ComponentsExist → (bus after : Bus) → IsReachedBus bus →
    (name : List ℕ) (tree : ReportedTree) → StandsIn bus name tree →
    Keeps bus after → resets_of after.world tree.root ≡ resets_of bus.world tree.root
same-count stay components bus after h name tree s k =
    let t = tree-stands stay components bus h name tree s in
    (k.trees s.node t.set tree.root t.stands.tree h.reached t.component t.stands.is).counts

module _ (trees : NoListHasTwoTrees) (keep-nodes : ActKeepsNodes) (stay : TreesStay) (components : ComponentsExist) (names-one : IdsNameOneNode) where
  -- `maps` was done on a bus that runs
  at-maps :
      (stage : Stage) (c : Command) (name : List ℕ) (next : Stage) (t : List ℕ) → c ≡ Maps name →
      DoesAtStage stage c (Ok (next, t)) →
      Led (bus_of stage) (Maps name) next t
  at-maps stage c name next t same f =
      let g : DoesAtStage stage (Maps name) (Ok (next, t)) =
      subst (λ (d : Command). DoesAtStage stage d (Ok (next, t))) same f in
      by-answer (bus_of stage) (Maps name) next t g.0 g.1 g.2

  pub each-maps : MapsShowOneTree
  each-maps bytes run before between rest one two name other tree x same first next keep stands too =
      let all : All IsDone (before ++ one ∷ (between ++ two ∷ rest)) = subst (All IsDone) same (each-done trees keep-nodes bytes run x).each in
      let lead : LeadsOn fresh (before ++ one ∷ (between ++ two ∷ rest)) = subst (LeadsOn fresh) same (leads-on bytes run x) in
      let rest-done : All IsDone (between ++ two ∷ rest) = behind-split IsDone before (between ++ two ∷ rest) one all in
      let p : IsDone one = at-split IsDone before (between ++ two ∷ rest) one all in
      let q : IsDone two = at-split IsDone between rest two rest-done in
      let a = at-maps one.before one.command name one.after one.text first p.follows in
      let b = at-maps two.before two.command other two.after two.text next q.follows in
      let m : Keeps (bus_of one.before) a.after = kept-by stay names-one (bus_of one.before) (Maps name) one.after one.text tt a in
      let k = kept-along (kept-by stay names-one) between rest two a.after one.after a.next_is (leads-behind fresh before (between ++ two ∷ rest) one lead) rest-done keep in
      let at : bus_of two.before ≡ k.0 = ap bus_of k.1 in
      let whole : Keeps (bus_of one.before) (bus_of two.before) =
      subst (Keeps (bus_of one.before)) (sym at) (both (bus_of one.before) a.after k.0 m k.2) in
      let again : StandsIn (bus_of two.before) other tree =
      stand-again (bus_of one.before) (bus_of two.before) other tree whole too in
      let counts = same-count stay components (bus_of one.before) (bus_of two.before) (sound-bus one.before p.sound) name tree stands whole in
      record {
        stands = again;
        generation = counts;
        text =
            sym (one-text trees (bus_of one.before) (bus_of two.before) a.after b.after tree one.text two.text
            (maps-shown (bus_of one.before) name tree stands a.after one.text a.does)
            (maps-shown (bus_of two.before) other tree again b.after two.text b.does) (sym counts));
      }

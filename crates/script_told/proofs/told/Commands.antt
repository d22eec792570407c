-- A command comes to one answer, and leaves cables that are a cabling.
use Rattle.std.proofs.Common.{◌≡◌, ◌++◌, ◌==◌, ℕ, Bool, true, false, Option, None, Some, List, [], refl, sym, ◌∙◌, ap, subst, arith}
use Rattle.std.specs.Prelude.{codes, Ok, Err, IsSomeAnd, MatchBool, nat_lt, ◌+◌}
use Rattle.phy_packet.specs.Packet.{quad_of}
use Rattle.phy_packet.specs.declared.packet.PhyPacket.TheVariants as packet
use Rattle.self_id.specs.declared.standard.Standard.TheVariants.{Ieee2000}
use Rattle.topology_stack.specs.Tree.{Label, Tree}
use Rattle.topology_stack.specs.Elect.{elected}
use Rattle.topology_stack.specs.OneAnswer.{NoListHasTwoTrees}
use Rattle.cabling.specs.declared.cable.CableFault.{CableFault}
use Rattle.cabling.specs.Labels.{labels}
use Rattle.cabling.specs.Walk.{IsWalk}
use Rattle.cabling.specs.Wiring.{Wiring}
use Rattle.cable_world.specs.declared.act.Act.{Act}
use Rattle.cable_world.specs.declared.act.Act.TheVariants as act
use Rattle.cable_world.specs.World.{CableWorld, NodeNumber}
use Rattle.cable_world.specs.Act.{act_fault, hold_fault}
use Rattle.resource_manager.specs.declared.access.Access.TheVariants as access
use Rattle.bus_manager.specs.Gap.{gap_of}
use Rattle.root_plan.specs.Reach.{IsReach}
use Rattle.root_plan.specs.declared.choice.RootPlan.{RootPlan}
use Rattle.settle.proofs.Lemmas.{one-order, one-over-cabling}
use Rattle.settle.specs.declared.report.Report.{Report}
use Rattle.settle.specs.Report.{IsReport, quiet_turns_of}
use Rattle.script_lines.specs.declared.kind.Kind.{Kind}
use Rattle.script_lines.specs.declared.command.Command.{Command}
use Rattle.script_lines.specs.declared.command.Command.TheVariants.{Node, Plug, Pull, Reset, Turn, Hold, Settle, Config, CsrRead, CsrWrite, CsrLock, Look, Allocate, Release, Manager, Plan, Maps, Delay, Times, Clock}
use Rattle.script_text.specs.ReportText.{IsReportText}
use Rattle.script_text.specs.Maps.{IsMapsText}
use Rattle.script_text.specs.CommandText.{csr_text, grant_text}
use Rattle.std.specs.Option.{option_map}
use Rattle.root_plan.specs.Plan.{IsPlan}
use Rattle.script_text.specs.PlanText.{plan_line}
use Rattle.script_told.specs.Bus.{Notes, Bus, ReportedTree, node_named, resets_of, tree_with, values_at}
use Rattle.script_told.specs.Step.{LineAnswer, AtNamedNode, Named, AtTree, Settled, AtManager, IsTreeOf, Managed, node_with, id_of, Acts, HoldsWire, Within, Reports, DoesSettle, Accesses, Looks, DoesGrant, Bids, CarriesOut, Plans, PlansAs, MapsOf, GivesMaps, Does, end_of, config_of, notes_after_report}
use Rattle.script_lines.specs.Refusal.{kind_of}
use Rattle.script_text.proofs.Lemmas.{one-text, same_maps}
use Rattle.script_told.proofs.told.Cables.{IsCabled, turns-cabled, act-cabled, one-world}

-- after an answer the bus has a cabling, unless the line was at fault
abbrev pub LeavesCabled : LineAnswer → Type 0
LeavesCabled (Ok (after, text)) = IsCabled after.world
LeavesCabled (Err kind) = Unit {0}

-- there is one answer at most, and it leaves a cabling
abbrev pub IsOne : (LineAnswer → Type 0) → Type 0
IsOne Comes = (a b : LineAnswer) → Comes a → Comes b → (a ≡ b) × LeavesCabled a

-- an answer that is a value
known : (r a b : LineAnswer) → LeavesCabled r → a ≡ r → b ≡ r → (a ≡ b) × LeavesCabled a
known r a b h x y = (x ∙ sym y, subst LeavesCabled (sym x) h)

-- ---- what has to be there first

at-node :
    (node : Option NodeNumber) (Comes : NodeNumber → LineAnswer → Type 0) →
    ((k : NodeNumber) → IsOne (Comes k)) → IsOne (AtNamedNode node Comes)
at-node None Comes one a b x y = known (Err Kind.NoNode) a b tt x y
at-node (Some k) Comes one a b x y = one k a b x y

at-tree :
    (tree : Option ReportedTree) (Comes : ReportedTree → LineAnswer → Type 0) →
    ((t : ReportedTree) → IsOne (Comes t)) → IsOne (AtTree tree Comes)
at-tree None Comes one a b x y = known (Err Kind.NotSettled) a b tt x y
at-tree (Some t) Comes one a b x y = one t a b x y

named :
    (bus : Bus) (name : List ℕ) (Comes : NodeNumber → LineAnswer → Type 0) →
    ((k : NodeNumber) → IsOne (Comes k)) → IsOne (Named bus name Comes)
named bus name Comes one = at-node (node_named bus.notes.names name) Comes one

settled :
    (bus : Bus) (node : NodeNumber) (Comes : ReportedTree → LineAnswer → Type 0) →
    ((t : ReportedTree) → IsOne (Comes t)) → IsOne (Settled bus node Comes)
settled bus node Comes one = at-tree (tree_with node bus.notes) Comes one

at-manager :
    (manager : Option NodeNumber) (Comes : NodeNumber → LineAnswer → Type 0) →
    ((k : NodeNumber) → IsOne (Comes k)) → IsOne (AtManager manager Comes)
at-manager None Comes one a b x y = known (Err Kind.NoManager) a b tt x y
at-manager (Some k) Comes one a b x y = one k a b x y

same-tree :
    NoListHasTwoTrees → (list : List ℕ) (t u : Tree) → IsTreeOf list t → IsTreeOf list u → t ≡ u
same-tree trees list t u x y = trees Ieee2000 t u x.bus y.bus (x.emitted ∙ sym y.emitted)

managed :
    NoListHasTwoTrees → (bus : Bus) (name : List ℕ)
    (Comes : NodeNumber → ℕ → NodeNumber → LineAnswer → Type 0) →
    ((node : NodeNumber) (id : ℕ) (k : NodeNumber) → IsOne (Comes node id k)) →
    IsOne (Managed bus name Comes)
managed trees bus name Comes one =
    named bus name _ (λ node. settled bus node _ (λ tree a b x y.
    let same : y.1.shown ≡ x.1.shown = same-tree trees tree.list y.1.shown x.1.shown y.1.is x.1.is in
    let manager : y.0 ≡ x.0 =
    y.1.elects ∙ ap (λ (t : Tree). option_map (node_with tree) (elected t)) same ∙ sym x.1.elects in
    let Here : NodeNumber → LineAnswer → Type 0 = Comes node (id_of tree node) in
    let other : AtManager x.0 Here b =
    subst (λ (m : Option NodeNumber). AtManager m Here b) manager y.2 in
    at-manager x.0 Here (one node (id_of tree node)) a b x.2 other))

-- ---- acts and turns

bus-of : CableWorld → Notes → Bus
bus-of world notes = record { world = world; notes = notes }

same-bus : (a b : Bus) → a.world ≡ b.world → a.notes ≡ b.notes → a ≡ b
unfolding bus-of
same-bus a b w n =
    ap (λ (x : CableWorld). bus-of x a.notes) w ∙ ap (λ (x : Notes). bus-of b.world x) n

answer-of : Bus → List ℕ → LineAnswer
answer-of bus text = Ok (bus, text)

-- the bus and the text of an answer that isn't a fault
abbrev pub bus-in : Bus → LineAnswer → Bus
bus-in bus (Ok (after, text)) = after
bus-in bus (Err kind) = bus

abbrev text-in : LineAnswer → List ℕ
text-in (Ok (after, text)) = text
text-in (Err kind) = []

same-answer : (a b : Bus) (s t : List ℕ) → a ≡ b → s ≡ t → answer-of a s ≡ answer-of b t
same-answer a b s t x y =
    ap (λ (bus : Bus). answer-of bus s) x ∙ ap (answer-of b) y

pub not-refused : (fault : Option CableFault) (kind : Kind) → fault ≡ None →
    IsSomeAnd fault (λ f. kind ≡ kind_of f) → ⊥
not-refused None kind none h = h
not-refused (Some f) kind none h = absurd cc

one-refusal :
    (fault : Option CableFault) (one other : Kind) → IsSomeAnd fault (λ f. one ≡ kind_of f) →
    IsSomeAnd fault (λ f. other ≡ kind_of f) → one ≡ other
one-refusal None one other x y = absurd x
one-refusal (Some f) one other x y = x ∙ sym y

pub acts : (bus : Bus) (act : Act) → IsCabled bus.world → IsOne (Acts bus act)
unfolding answer-of
acts bus act h (Ok (a, s)) (Ok (b, t)) x y = (
  same-answer a b s t
      (same-bus a b (one-world act bus.world a.world b.world x.1 y.1) (x.2 ∙ sym y.2))
      (x.3 ∙ sym y.3),
  act-cabled act bus.world a.world x.0 x.1 h,
)
acts bus act h (Ok (a, s)) (Err kind) x y =
    absurd (not-refused (act_fault act bus.world) kind x.0 y)
acts bus act h (Err kind) (Ok (b, t)) x y =
    absurd (not-refused (act_fault act bus.world) kind y.0 x)
acts bus act h (Err one) (Err other) x y =
    (ap Err (one-refusal (act_fault act bus.world) one other x y), tt)

holds : (bus : Bus) (end : _) (turns : ℕ) → IsCabled bus.world → IsOne (HoldsWire bus end turns)
holds bus end turns h a b x y = go (hold_fault end bus.world) refl
  where
    go : (fault : Option CableFault) → hold_fault end bus.world ≡ fault → (a ≡ b) × LeavesCabled a
    go None e = known _ a b h (rw e at x) (rw e at y)
    go (Some fault) e = known (Err (kind_of fault)) a b tt (rw e at x) (rw e at y)

within :
    (bus : Bus) (turns : ℕ) (Comes : LineAnswer → Type 0) → IsOne Comes →
    IsOne (Within bus turns Comes)
within bus turns Comes one = go (nat_lt 2000000 (bus.world.turns + turns))
  where
    go : (past : Bool) → IsOne (λ r. MatchBool past (r ≡ Err Kind.TooManyTurns) (Comes r))
    go true a b x y = known (Err Kind.TooManyTurns) a b tt x y
    go false a b x y = one a b x y

-- ---- reports

reports : NoListHasTwoTrees → (bus : Bus) → IsCabled bus.world → IsOne (Reports bus)
unfolding answer-of
reports trees bus h (Ok (a, s)) (Ok (b, t)) x y =
    let worlds : a.world ≡ b.world = x.1 ∙ sym y.1 in
    let cabled : IsCabled a.world =
    subst IsCabled (sym x.1) (turns-cabled (quiet_turns_of bus.world) bus.world h) in
    let same : x.0 ≡ y.0 =
    one-over-cabling a.world x.0 y.0 cabled x.2
    (subst (λ (w : CableWorld). IsReport w y.0) (sym worlds) y.2) in
    let notes : a.notes ≡ b.notes = x.3 ∙ ap (notes_after_report bus.notes) same ∙ sym y.3 in
    let other : IsReportText bus.notes.names a.notes.reports x.0 t =
    subst (λ (n : Notes). IsReportText bus.notes.names n.reports x.0 t) (sym notes)
    (subst (λ (r : Report). IsReportText bus.notes.names b.notes.reports r t) (sym same) y.4) in
    let texts : s ≡ t = one-text trees bus.notes.names a.notes.reports x.0 s t x.4 other in
    (same-answer a b s t (same-bus a b worlds notes) texts, cabled)
reports trees bus h (Ok p) (Err kind) x y = absurd y
reports trees bus h (Err kind) b x y = absurd x

pub settles : NoListHasTwoTrees → (bus : Bus) → IsCabled bus.world → IsOne (DoesSettle bus)
settles trees bus h =
    within bus (quiet_turns_of bus.world) (Reports bus) (reports trees bus h)

-- ---- maps

gives-maps :
    NoListHasTwoTrees → (bus : Bus) (tree : ReportedTree) → IsCabled bus.world →
    IsOne (GivesMaps bus tree)
unfolding answer-of
gives-maps trees bus tree h (Ok (a, s)) (Ok (b, t)) x y =
    let same : y.shown ≡ x.shown = same-tree trees tree.list y.shown x.shown y.is x.is in
    let generation : ℕ = resets_of bus.world tree.root in
    let other : IsMapsText generation x.shown t =
    subst (λ (u : Tree). IsMapsText generation u t) same y.told in
    let texts : s ≡ t = same_maps generation x.shown s t x.is.bus.bus x.told other in (
      same-answer a b s t (x.after_is ∙ sym y.after_is) texts,
      subst (λ (u : Bus). IsCabled u.world) (sym x.after_is) h,
    )
gives-maps trees bus tree h (Ok p) (Err kind) x y = absurd y
gives-maps trees bus tree h (Err kind) b x y = absurd x

maps-of :
    NoListHasTwoTrees → (bus : Bus) (tree : ReportedTree) → IsCabled bus.world →
    IsOne (MapsOf bus tree)
maps-of trees bus tree h = go (nat_lt bus.notes.maps 100)
  where
    go : (few : Bool) →
        IsOne (λ r. MatchBool few (GivesMaps bus tree r) (r ≡ Err Kind.TooManyMaps))
    go true a b x y = gives-maps trees bus tree h a b x y
    go false a b x y = known (Err Kind.TooManyMaps) a b tt x y

-- ---- plans

plan-of : ℕ → ℕ → ℕ → RootPlan
plan-of root hops far = record {
  root_id = root;
  hops = hops;
  gap = gap_of hops;
  far = far;
  packet = quad_of (packet.Config root true true (gap_of hops) 0);
}

-- a plan is made by its root, its hops and its reach
plan-is : (t : Tree) (p : RootPlan) → IsPlan t p → p ≡ plan-of p.root_id p.hops p.far
unfolding plan-of
plan-is t p x =
    ap (λ (q : ℕ). record p { packet = q }) (x.packet ∙ ap (λ (g : ℕ). quad_of (packet.Config p.root_id true true g 0)) x.gap)
    ∙ ap (λ (g : ℕ). record (plan-of p.root_id p.hops p.far) { gap = g }) x.gap

one-plan : (t : Tree) (p q : RootPlan) → IsPlan t p → IsPlan t q → p ≡ q
one-plan t p q x y =
    let far : p.far ≡ q.far =
    omega (arith, x.least q.root_id q.far y.candidate y.far, y.least p.root_id p.far x.candidate x.far) in
    let root : p.root_id ≡ q.root_id =
    omega (arith, x.highest q.root_id y.candidate (subst (IsReach t q.root_id) (sym far) y.far), y.highest p.root_id x.candidate (subst (IsReach t p.root_id) far x.far)) in
    let hops : p.hops ≡ q.hops =
    omega (arith, x.hops.longest q.hops y.hops.path, y.hops.longest p.hops x.hops.path) in
    plan-is t p x
    ∙ ap (λ (r : ℕ). plan-of r p.hops p.far) root
    ∙ ap (λ (h : ℕ). plan-of q.root_id h p.far) hops
    ∙ ap (λ (f : ℕ). plan-of q.root_id q.hops f) far
    ∙ sym (plan-is t q y)

no-label : NodeNumber → Label
no-label = labels []

pub one-walk : (c : Wiring) (root : ℕ) (a b : List ℕ) → IsWalk c root a → IsWalk c root b → a ≡ b
one-walk c root a b x y =
    let p = x no-label in
    let q = y no-label in
    p.order ∙ one-order c no-label no-label root None p.tree q.tree p.seen q.seen ∙ sym q.order

pub same-plan :
    NoListHasTwoTrees → (bus : Bus) (name : List ℕ) (node : NodeNumber) (tree : ReportedTree)
    (a : Bus) (s : List ℕ) (b : Bus) (t : List ℕ) (x : CarriesOut bus name node tree a s)
    (y : CarriesOut bus name node tree b t) → x.plan ≡ y.plan
same-plan trees bus name node tree a s b t x y =
    let shown : y.shown ≡ x.shown = same-tree trees tree.list y.shown x.shown y.is x.is in
    one-plan x.shown x.plan y.plan x.planned (subst (λ (u : Tree). IsPlan u y.plan) shown y.planned)

pub same-sent :
    NoListHasTwoTrees → (bus : Bus) (name : List ℕ) (node : NodeNumber) (tree : ReportedTree) →
    IsCabled bus.world → (a : Bus) (s : List ℕ) (b : Bus) (t : List ℕ)
    (x : CarriesOut bus name node tree a s) (y : CarriesOut bus name node tree b t) →
    (x.sent ≡ y.sent) × IsCabled x.sent.world
unfolding answer-of
same-sent trees bus name node tree h a s b t x y =
    let act : RootPlan → Act = λ p. config_of node (Some p.root_id) (Some p.gap) in
    let here = acts bus (act y.plan) h (answer-of x.sent []) (answer-of y.sent [])
    (subst (λ (p : RootPlan). Acts bus (act p) (answer-of x.sent [])) (same-plan trees bus name node tree a s b t x y) x.sends) y.sends in
    (ap (bus-in x.sent) here.0, here.1)

plans :
    NoListHasTwoTrees → (bus : Bus) (name : List ℕ) (node : NodeNumber) (tree : ReportedTree) →
    IsCabled bus.world → IsOne (Plans bus name node tree)
unfolding answer-of
plans trees bus name node tree h (Ok (a, s)) (Ok (b, t)) x y =
    let plan : x.plan ≡ y.plan = same-plan trees bus name node tree a s b t x y in
    let root : node_with tree x.plan.root_id ≡ node_with tree y.plan.root_id =
    ap (λ (p : RootPlan). node_with tree p.root_id) plan in
    let expected : x.expected ≡ y.expected =
    one-walk bus.world.cabling (node_with tree y.plan.root_id) x.expected y.expected
    (subst (λ (r : ℕ). IsWalk bus.world.cabling r x.expected) root x.walk) y.walk in
    let here = same-sent trees bus name node tree h a s b t x y in
    let sent : x.sent ≡ y.sent = here.0 in
    let there = reports trees x.sent here.1 (answer-of a x.report) (answer-of b y.report) x.reports
    (subst (λ (u : Bus). Reports u (answer-of b y.report)) (sym sent) y.reports) in
    let line : NodeNumber → RootPlan → List ℕ → List ℕ → List ℕ =
    λ r p e u. plan_line bus.notes.names name r p e ++ u in
    let texts : s ≡ t =
    x.text_is
    ∙ ap (λ (r : ℕ). line r x.plan x.expected x.report) root
    ∙ ap (λ (p : RootPlan). line (node_with tree y.plan.root_id) p x.expected x.report) plan
    ∙ ap (λ (e : List ℕ). line (node_with tree y.plan.root_id) y.plan e x.report) expected
    ∙ ap (line (node_with tree y.plan.root_id) y.plan y.expected) (ap text-in there.0)
    ∙ sym y.text_is in
    (same-answer a b s t (ap (bus-in a) there.0) texts, there.1)
plans trees bus name node tree h (Ok p) (Err kind) x y = absurd y
plans trees bus name node tree h (Err kind) b x y = absurd x

plans-as :
    NoListHasTwoTrees → (bus : Bus) (name : List ℕ) (node : NodeNumber) (id : ℕ)
    (manager : NodeNumber) → IsCabled bus.world → IsOne (PlansAs bus name node id manager)
plans-as trees bus name node id manager h = go ((values_at manager bus).bus_manager_id == id)
  where
    one : IsOne (Within bus (quiet_turns_of bus.world) (Settled bus node (Plans bus name node)))
    one =
        within bus (quiet_turns_of bus.world) (Settled bus node (Plans bus name node))
        (settled bus node (Plans bus name node) (λ tree. plans trees bus name node tree h))

    go :
        (its : Bool) →
        IsOne (λ r. MatchBool its
        (Within bus (quiet_turns_of bus.world) (Settled bus node (Plans bus name node)) r)
        (r ≡ Err Kind.NotManager))
    go true a b x y = one a b x y
    go false a b x y = known (Err Kind.NotManager) a b tt x y

-- ---- the commands

-- no call to registers touches the world
call : (bus after : Bus) (text : List ℕ) → after.world ≡ bus.world → IsCabled bus.world →
    IsOne (λ r. r ≡ Ok (after, text))
call bus after text same h a b x y =
    known (Ok (after, text)) a b (subst IsCabled (sym same) h) x y

pub does :
    NoListHasTwoTrees → (bus : Bus) (command : Command) → IsCabled bus.world →
    IsOne (Does bus command)
does trees bus
    (Node name ports speed link contender force power gap gap_reset hold short long word len seed packed)
    h = λ a b x y. known (Err Kind.Late) a b tt x y
does trees bus (Delay delay) h = λ a b x y. known (Err Kind.Late) a b tt x y
does trees bus (Times standard nanoseconds) h = λ a b x y. known (Err Kind.Late) a b tt x y
does trees bus (Clock name ppm first) h = λ a b x y. known (Err Kind.Late) a b tt x y
does trees bus (Plug one one_port other other_port) h =
    named bus one _ (λ i. named bus other _ (λ j.
    acts bus (act.Plug (end_of i one_port) (end_of j other_port)) h))
does trees bus (Pull name port) h =
    named bus name _ (λ node. acts bus (act.Pull (end_of node port)) h)
does trees bus (Reset name) h = named bus name _ (λ node. acts bus (act.Reset node) h)
does trees bus (Turn count) h =
    within bus count _ (λ a b x y. known _ a b (turns-cabled count bus.world h) x y)
does trees bus (Hold name port turns) h =
    named bus name _ (λ node. holds bus (end_of node port) turns h)
does trees bus Settle h = settles trees bus h
does trees bus (Config name root_id gap) h =
    named bus name _ (λ node. settled bus node _ (λ tree.
    acts bus (config_of node root_id gap) h))
does trees bus (CsrRead name offset) h =
    managed trees bus name (λ node id manager. Accesses bus manager (access.Read offset) (csr_text name))
    (λ node id manager. call bus _ _ refl h)
does trees bus (CsrWrite name offset value) h =
    managed trees bus name (λ node id manager. Accesses bus manager (access.Write offset value) (csr_text name))
    (λ node id manager. call bus _ _ refl h)
does trees bus (CsrLock name offset kind arg value) h =
    managed trees bus name (λ node id manager. Accesses bus manager (access.Lock offset kind arg value) (csr_text name))
    (λ node id manager. call bus _ _ refl h)
does trees bus (Look name) h =
    managed trees bus name (λ node id manager. Looks bus node manager)
    (λ node id manager. call bus _ _ refl h)
does trees bus (Allocate name channel units) h =
    managed trees bus name (λ node id manager. DoesGrant bus node manager
    (λ seen. access.Allocate seen channel units) (grant_text (codes "allocate ") name))
    (λ node id manager. call bus _ _ refl h)
does trees bus (Release name channel units) h =
    managed trees bus name (λ node id manager. DoesGrant bus node manager
    (λ seen. access.Release seen channel units) (grant_text (codes "release ") name))
    (λ node id manager. call bus _ _ refl h)
does trees bus (Manager name) h =
    managed trees bus name (λ node id manager. Bids bus name id manager)
    (λ node id manager. call bus _ _ refl h)
does trees bus (Plan name) h =
    managed trees bus name (PlansAs bus name) (λ node id manager. plans-as trees bus name node id manager h)
does trees bus (Maps name) h =
    named bus name _ (λ node. settled bus node _ (λ tree. maps-of trees bus tree h))

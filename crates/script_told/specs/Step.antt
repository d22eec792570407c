-- What a command of a script comes to on its bus: the bus then and the text that it prints, or the
-- fault of its line.
use Rattle.std.specs.Prelude.{◌≡◌, ℕ, ◌+◌, nat_lt, ◌==◌, is_some, length, replicate, List, [], ◌++◌, codes, Option, None, Some, unwrap_or, slice_index_or, position, Result, Ok, Err, IsSomeAnd, MatchBool, if◌then◌else◌}
use Rattle.std.specs.Option.{option_map}
use Rattle.self_id.specs.declared.standard.Standard.TheVariants.{Ieee2000}
use Rattle.topology_stack.specs.Tree.{Tree, IsBusTreeOf, emits}
use Rattle.topology_stack.specs.Elect.{elected}
use Rattle.cabling.specs.declared.cable.End.{End}
use Rattle.cabling.specs.declared.cable.CableFault.{CableFault}
use Rattle.cabling.specs.Walk.{IsWalk}
use Rattle.cable_world.specs.declared.act.Act.{Act}
use Rattle.cable_world.specs.declared.act.Act.TheVariants as act
use Rattle.cable_world.specs.World.{NodeNumber}
use Rattle.cable_world.specs.Act.{ActLeads, act_fault, hold, hold_fault}
use Rattle.cable_world.specs.Turn.{turns_after}
use Rattle.resource_manager.specs.declared.access.Access.{Access}
use Rattle.resource_manager.specs.declared.access.Access.TheVariants as access
use Rattle.resource_manager.specs.declared.grant.Seen.{Seen}
use Rattle.resource_manager.specs.Channel.{seen_of}
use Rattle.resource_manager.specs.declared.access.Answer.{Answer}
use Rattle.resource_manager.specs.Access.{answer_of}
use Rattle.bus_manager.specs.Election.{lock_for}
use Rattle.root_plan.specs.declared.choice.RootPlan.{RootPlan}
use Rattle.settle.specs.declared.report.Report.{Report}
use Rattle.settle.specs.Report.{IsReport, quiet_turns_of}
use Rattle.script_lines.specs.declared.kind.Kind.{Kind}
use Rattle.script_lines.specs.declared.kind.Kind.TheVariants.{Late, NoNode, NotSettled, NoManager, NotManager, TooManyTurns, TooManyMaps}
use Rattle.script_lines.specs.declared.command.Command.{Command}
use Rattle.script_lines.specs.declared.command.Command.TheVariants.{Node, Plug, Pull, Reset, Turn, Hold, Settle, Config, CsrRead, CsrWrite, CsrLock, Look, Allocate, Release, Manager, Plan, Maps, Delay, Times, Clock}
use Rattle.script_lines.specs.Refusal.{kind_of}
use Rattle.script_text.specs.ReportText.{IsReportText}
use Rattle.script_text.specs.Maps.{IsMapsText}
use Rattle.script_text.specs.CommandText.{csr_text, grant_text, bid_text}
use Rattle.root_plan.specs.Plan.{IsPlan}
use Rattle.script_text.specs.PlanText.{plan_line}
use Rattle.script_told.specs.Bus.{Notes, Bus, ReportedTree, node_named, resets_of, tree_with, values_at, after_access, look_of, put_look}

-- the bus and what was printed, or a fault
abbrev pub LineAnswer : Type 0
LineAnswer = Result (Bus × List ℕ) Kind

-- ---- what has to be there first

-- the node with a name, else `NoNode`
abbrev pub AtNamedNode :
    Option NodeNumber → (NodeNumber → LineAnswer → Type 0) → LineAnswer → Type 0
AtNamedNode None comes answer = answer ≡ Err NoNode
AtNamedNode (Some node) comes answer = comes node answer

abbrev pub Named : Bus → List ℕ → (NodeNumber → LineAnswer → Type 0) → LineAnswer → Type 0
Named bus name comes answer = AtNamedNode (node_named bus.notes.names name) comes answer

-- the tree in which a node stands settled, else `NotSettled`
abbrev pub AtTree : Option ReportedTree → (ReportedTree → LineAnswer → Type 0) → LineAnswer → Type 0
AtTree None comes answer = answer ≡ Err NotSettled
AtTree (Some tree) comes answer = comes tree answer

abbrev pub Settled : Bus → NodeNumber → (ReportedTree → LineAnswer → Type 0) → LineAnswer → Type 0
Settled bus node comes answer = AtTree (tree_with node bus.notes) comes answer

-- the bus tree that has this list
pub record IsTreeOf (list : List ℕ) (t : Tree) : Type 0 where
  pub bus : IsBusTreeOf Ieee2000 t
  pub emitted : emits t ≡ list

-- the node of an ID, and the ID of a node
abbrev pub node_with : ReportedTree → ℕ → NodeNumber
node_with tree id = slice_index_or tree.order id 0

abbrev pub id_of : ReportedTree → NodeNumber → ℕ
id_of tree node = unwrap_or (position (λ k. k == node) tree.order) 0

-- the isochronous resource manager of a tree, or none
pub record HasManager (tree : ReportedTree) (manager : Option NodeNumber) : Type 0 where
  pub shown : Tree
  pub is : IsTreeOf tree.list shown
  pub elects : manager ≡ option_map (node_with tree) (elected shown)

-- the manager, else `NoManager`
abbrev pub AtManager : Option NodeNumber → (NodeNumber → LineAnswer → Type 0) → LineAnswer → Type 0
AtManager None comes answer = answer ≡ Err NoManager
AtManager (Some manager) comes answer = comes manager answer

-- a node with a name stands settled in a tree, where it has an ID and there is a manager
abbrev pub Managed :
    Bus → List ℕ → (NodeNumber → ℕ → NodeNumber → LineAnswer → Type 0) → LineAnswer → Type 0
Managed bus name comes answer = Named bus name (λ node. Settled bus node (λ tree r.
    (manager : Option NodeNumber) × HasManager tree manager
    × AtManager manager (comes node (id_of tree node)) r)) answer

-- ---- acts and turns

-- a port number above 255 is that of no port, as 255 is
abbrev pub port_of : ℕ → ℕ
port_of port = if nat_lt 255 port then 255 else port

abbrev pub end_of : NodeNumber → ℕ → End
end_of node port = record { node = node; port = port_of port }

-- an act drops all looks, and the last report no longer stands
abbrev pub notes_after_act : Notes → Notes
notes_after_act notes =
    record notes { looks = replicate (length notes.looks) None; report = None }

-- the act is done, or refused
abbrev pub Acts : Bus → Act → LineAnswer → Type 0
Acts bus a (Ok (after, text)) =
    (act_fault a bus.world ≡ None) × ActLeads a bus.world after.world
    × (after.notes ≡ notes_after_act bus.notes) × (text ≡ [])
Acts bus a (Err kind) = IsSomeAnd (act_fault a bus.world) (λ fault. kind ≡ kind_of fault)

-- the configuration packet: R is set where an ID is given, and T where a gap count is
abbrev pub config_of : NodeNumber → Option ℕ → Option ℕ → Act
config_of from root_id gap = act.Config from (unwrap_or root_id 0) (is_some root_id) gap

-- the wire that leaves an end is held, or this is refused
abbrev pub HoldsWire : Bus → End → ℕ → LineAnswer → Type 0
HoldsWire bus end turns answer = unless (hold_fault end bus.world)
  where
    unless : Option CableFault → Type 0
    unless None = answer ≡ Ok (record bus { world = hold end turns bus.world }, [])
    unless (Some fault) = answer ≡ Err (kind_of fault)

-- with so many turns more no more than 2,000,000 are done, else `TooManyTurns`
abbrev pub Within : Bus → ℕ → (LineAnswer → Type 0) → LineAnswer → Type 0
Within bus turns comes answer =
    MatchBool (nat_lt 2000000 (bus.world.turns + turns))
    (answer ≡ Err TooManyTurns) (comes answer)

abbrev pub Turns : Bus → ℕ → LineAnswer → Type 0
Turns bus count answer = Within bus count
    (λ r. r ≡ Ok (record bus { world = turns_after count bus.world }, [])) answer

-- ---- reports

-- what is kept of a report
abbrev pub notes_after_report : Notes → Report → Notes
notes_after_report notes report =
    record notes { report = Some report; reports = notes.reports + 1 }

-- the quiet turns are done, and what then is reported is printed
abbrev pub Reports : Bus → LineAnswer → Type 0
Reports bus (Ok (after, text)) = (report : Report)
    × (after.world ≡ turns_after (quiet_turns_of bus.world) bus.world)
    × (IsReport after.world report)
    × (after.notes ≡ notes_after_report bus.notes report)
    × IsReportText bus.notes.names after.notes.reports report text
Reports bus (Err kind) = ⊥

abbrev pub DoesSettle : Bus → LineAnswer → Type 0
DoesSettle bus answer = Within bus (quiet_turns_of bus.world) (Reports bus) answer

-- ---- questions to the isochronous resource manager

-- a call to the registers, and the text of what it answers
abbrev pub Accesses : Bus → NodeNumber → Access → (Answer → List ℕ) → LineAnswer → Type 0
Accesses bus manager a text answer =
    answer ≡ Ok (after_access manager a bus, text (answer_of (values_at manager bus) a))

-- what a node saw: its last look, and else what the registers show now
abbrev pub seen_by : NodeNumber → NodeNumber → Bus → Seen
seen_by node manager bus = unwrap_or (look_of node bus.notes) (seen_of (values_at manager bus))

-- a grant or a release by what the node saw; it drops the node's look
abbrev pub DoesGrant :
    Bus → NodeNumber → NodeNumber → (Seen → Access) → (Answer → List ℕ) → LineAnswer → Type 0
DoesGrant bus node manager a text answer =
    Accesses (put_look node None bus) manager (a (seen_by node manager bus)) text answer

-- the node sees what the registers show now
abbrev pub Looks : Bus → NodeNumber → NodeNumber → LineAnswer → Type 0
Looks bus node manager answer =
    answer ≡ Ok (put_look node (Some (seen_of (values_at manager bus))) bus, [])

-- the node tries to become bus manager, with its ID
abbrev pub Bids : Bus → List ℕ → ℕ → NodeNumber → LineAnswer → Type 0
Bids bus name id manager answer = Accesses bus manager (lock_for id) (bid_text name) answer

-- ---- plans

-- the node's ID stands in the register of the bus manager, else `NotManager`
abbrev pub AsBusManager : Bus → ℕ → NodeNumber → (LineAnswer → Type 0) → LineAnswer → Type 0
AsBusManager bus id manager comes answer =
    MatchBool ((values_at manager bus).bus_manager_id == id) (comes answer)
    (answer ≡ Err NotManager)

-- The plan for the tree of a node is carried out. The node sends the packet that names the root and
-- the gap count and resets the bus, the quiet turns are done, and what then is reported is printed
-- behind the line of the plan.
pub record CarriesOut
    (bus : Bus) (name : List ℕ) (node : NodeNumber) (tree : ReportedTree) (after : Bus)
    (text : List ℕ) : Type 0 where
  pub shown : Tree
  pub is : IsTreeOf tree.list shown
  pub plan : RootPlan
  pub planned : IsPlan shown plan
  -- the nodes in the order in which they identify themselves under the new root
  pub expected : List NodeNumber
  pub walk : IsWalk bus.world.cabling (node_with tree plan.root_id) expected
  pub sent : Bus
  pub sends : Acts bus (config_of node (Some plan.root_id) (Some plan.gap)) (Ok (sent, []))
  pub report : List ℕ
  pub reports : Reports sent (Ok (after, report))
  pub text_is :
      text ≡ plan_line bus.notes.names name (node_with tree plan.root_id) plan expected ++ report

abbrev pub Plans : Bus → List ℕ → NodeNumber → ReportedTree → LineAnswer → Type 0
Plans bus name node tree (Ok (after, text)) = CarriesOut bus name node tree after text
Plans bus name node tree (Err kind) = ⊥

-- the bus manager plans, where the quiet turns are within the limit
abbrev pub PlansAs : Bus → List ℕ → NodeNumber → ℕ → NodeNumber → LineAnswer → Type 0
PlansAs bus name node id manager answer = AsBusManager bus id manager
    (Within bus (quiet_turns_of bus.world) (Settled bus node (Plans bus name node))) answer

-- ---- maps

abbrev pub notes_after_maps : Notes → Notes
notes_after_maps notes = record notes { maps = notes.maps + 1 }

abbrev pub after_maps : Bus → Bus
after_maps bus = record bus { notes = notes_after_maps bus.notes }

-- the maps of a tree, with the root's count of resets as their generation
pub record ShowsMaps (bus : Bus) (tree : ReportedTree) (after : Bus) (text : List ℕ) : Type 0 where
  pub shown : Tree
  pub is : IsTreeOf tree.list shown
  pub after_is : after ≡ after_maps bus
  pub told : IsMapsText (resets_of bus.world tree.root) shown text

abbrev pub GivesMaps : Bus → ReportedTree → LineAnswer → Type 0
GivesMaps bus tree (Ok (after, text)) = ShowsMaps bus tree after text
GivesMaps bus tree (Err kind) = ⊥

-- a script has 100 maps at most
abbrev pub MapsOf : Bus → ReportedTree → LineAnswer → Type 0
MapsOf bus tree answer =
    MatchBool (nat_lt bus.notes.maps 100) (GivesMaps bus tree answer) (answer ≡ Err TooManyMaps)

-- ---- the commands

-- what each command comes to on a bus whose nodes are all declared
abbrev pub Does : Bus → Command → LineAnswer → Type 0
Does bus (Node name ports speed link contender force power gap gap_reset hold short long word len seed packed)
    r = r ≡ Err Late
Does bus (Delay delay) r = r ≡ Err Late
Does bus (Times standard nanoseconds) r = r ≡ Err Late
Does bus (Clock name ppm first) r = r ≡ Err Late
Does bus (Plug a a_port b b_port) r = Named bus a (λ i. Named bus b (λ j.
    Acts bus (act.Plug (end_of i a_port) (end_of j b_port)))) r
Does bus (Pull name port) r = Named bus name (λ node. Acts bus (act.Pull (end_of node port))) r
Does bus (Reset name) r = Named bus name (λ node. Acts bus (act.Reset node)) r
Does bus (Turn count) r = Turns bus count r
Does bus (Hold name port turns) r =
    Named bus name (λ node. HoldsWire bus (end_of node port) turns) r
Does bus Settle r = DoesSettle bus r
Does bus (Config name root_id gap) r = Named bus name (λ node. Settled bus node (λ tree.
    Acts bus (config_of node root_id gap))) r
Does bus (CsrRead name offset) r = Managed bus name (λ node id manager.
    Accesses bus manager (access.Read offset) (csr_text name)) r
Does bus (CsrWrite name offset value) r = Managed bus name (λ node id manager.
    Accesses bus manager (access.Write offset value) (csr_text name)) r
Does bus (CsrLock name offset kind arg value) r = Managed bus name (λ node id manager.
    Accesses bus manager (access.Lock offset kind arg value) (csr_text name)) r
Does bus (Look name) r = Managed bus name (λ node id manager. Looks bus node manager) r
Does bus (Allocate name channel units) r = Managed bus name (λ node id manager.
    DoesGrant bus node manager (λ seen. access.Allocate seen channel units)
    (grant_text (codes "allocate ") name)) r
Does bus (Release name channel units) r = Managed bus name (λ node id manager.
    DoesGrant bus node manager (λ seen. access.Release seen channel units)
    (grant_text (codes "release ") name)) r
Does bus (Manager name) r = Managed bus name (λ node id manager.
    Bids bus name id manager) r
Does bus (Plan name) r = Managed bus name (PlansAs bus name) r
Does bus (Maps name) r = Named bus name (λ node. Settled bus node (λ tree.
    MapsOf bus tree)) r

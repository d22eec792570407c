-- The bus of a script as the code keeps it.
use Rattle.std.specs.Prelude.{◌≡◌, ℕ, ◌≤◌, List, length, Some, Result, Err, IfSome, IsFalse, Bool}
use Rattle.cable_world.specs.World.{CableWorld}
use Rattle.cable_world.specs.Run.{IsReached}
use Rattle.script_lines.specs.declared.kind.Kind.{Kind}
use Rattle.script_lines.specs.declared.kind.LineStop.{LineStop}
use Rattle.script_lines.specs.declared.kind.LineStop.TheVariants.{Fault, Memory}
use Rattle.script_bus.specs.declared.bus.Notes as kept
use Rattle.script_bus.specs.declared.bus.ReportedTree as shown
use Rattle.script_text.specs.ReportText.{IsNamedReport}
use Rattle.script_told.specs.Bus.{Notes, Bus, ReportedTree, node_named, tree_with}
use Rattle.script_bus.specs.codings.Standing.{StandsSince}
use Rattle.script_told.specs.Step.{LineAnswer, HasManager, id_of}

abbrev pub notes_now : kept.Notes → Notes
notes_now notes = record {
  times = notes.times;
  names = notes.names;
  banks = notes.banks.items;
  looks = notes.looks;
  report = notes.report;
  reports = notes.reports;
  maps = notes.maps;
}

abbrev pub bus_now : CableWorld → kept.Notes → Bus
bus_now world notes = record { world = world; notes = notes_now notes }

abbrev pub reported : shown.ReportedTree → ReportedTree
reported tree = record { root = tree.root; list = tree.list.now; order = tree.order.now }

-- what holds of a bus between two lines
pub record IsBus (bus : Bus) : Type 0 where
  pub reached : ∥ IsReached bus.world ∥₁
  pub names : length bus.notes.names ≡ length bus.world.nodes
  pub banks : length bus.notes.banks ≡ length bus.world.nodes
  pub looks : length bus.notes.looks ≡ length bus.world.nodes
  pub few : length bus.world.nodes ≤ 63
  pub turns : bus.world.turns ≤ 2000000
  pub reports : bus.notes.reports ≤ bus.world.turns
  pub maps : bus.notes.maps ≤ 100
  pub report : IfSome bus.notes.report (λ report. IsNamedReport bus.notes.names report)
  pub stands : IfSome bus.notes.report (λ report. StandsSince report bus.world)

-- what holds of a bus that is kept, and that its world isn't spent
pub record IsSound (b : Bus) (spent : Bool) : Type 0 where
  pub bus : IsBus b
  pub fine : IsFalse spent

-- a stop for a fault tells the fault
abbrev pub IfFault : (Kind → Type 0) → LineStop → Type 0
IfFault P (Fault kind) = P kind
IfFault P (Memory none) = Unit {0}

-- a stop for a fault is what comes of a line
abbrev pub Stops : {A : Type 0} → (Result A Kind → Type 0) → LineStop → Type 0
Stops comes stop = IfFault (λ kind. comes (Err kind)) stop

-- the node with a name has this number and this ID in its tree, and this is the tree's manager
pub record IsAsked (bus : Bus) (name : List ℕ) (node id manager : ℕ) : Type 0 where
  pub named : node_named bus.notes.names name ≡ Some node
  pub tree : ReportedTree
  pub settled : tree_with node bus.notes ≡ Some tree
  pub id_is : id ≡ id_of tree node
  pub managed : HasManager tree (Some manager)

-- nothing comes of a command but a fault
abbrev pub nothing : ℕ → ℕ → ℕ → LineAnswer → Type 0
nothing node id manager answer = ⊥

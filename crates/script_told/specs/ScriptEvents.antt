-- From each command of a script to the next there is a run of events.
use Rattle.std.specs.Prelude.{◌≡◌, ℕ, List, ◌∷◌, All, Any, Some}
use Rattle.cabling.specs.declared.cable.End.{End}
use Rattle.cable_world.specs.declared.act.Act.TheVariants as act
use Rattle.cable_world.specs.declared.act.Act.{Act}
use Rattle.cable_world.specs.World.{NodeNumber}
use Rattle.cable_world.specs.Events.{Event, acts, Runs, HasNoAct, turn_count}
use Rattle.script_lines.specs.declared.command.Command.{Command}
use Rattle.script_lines.specs.declared.command.Command.TheVariants.{Node, Plug, Pull, Reset, Turn, Settle, Config, Plan, Delay, Times, Clock}
use Rattle.script_told.specs.Bus.{Bus, node_named}
use Rattle.script_told.specs.Step.{port_of, end_of, config_of}
use Rattle.script_told.specs.Script.{running, bus_of}
use Rattle.script_told.specs.Run.{Entry, ScriptRun, IsRun}

-- a command that declares what there is
abbrev pub Declares : Command → Type 0
Declares (Node name ports speed link contender force power gap gap_reset hold short long word len seed packed) =
    Unit {0}
Declares (Delay delay) = Unit {0}
Declares (Times standard nanoseconds) = Unit {0}
Declares (Clock name ppm first) = Unit {0}
Declares command = ⊥

-- a command that takes time or asks, and neither acts nor reports
abbrev pub LeavesAlone : Command → Type 0
LeavesAlone (Node name ports speed link contender force power gap gap_reset hold short long word len seed packed) =
    ⊥
LeavesAlone (Delay delay) = ⊥
LeavesAlone (Times standard nanoseconds) = ⊥
LeavesAlone (Clock name ppm first) = ⊥
LeavesAlone (Plug a a_port b b_port) = ⊥
LeavesAlone (Pull name port) = ⊥
LeavesAlone (Reset name) = ⊥
LeavesAlone (Config name root_id gap) = ⊥
LeavesAlone Settle = ⊥
LeavesAlone (Plan name) = ⊥
LeavesAlone command = Unit {0}

-- a command in which no turn passes: it declares, acts, holds or asks
abbrev pub TakesNoTurn : Command → Type 0
TakesNoTurn (Turn count) = ⊥
TakesNoTurn Settle = ⊥
TakesNoTurn (Plan name) = ⊥
TakesNoTurn command = Unit {0}

-- the node with this name
abbrev pub IsNamed : Bus → List ℕ → NodeNumber → Type 0
IsNamed bus name node = node_named bus.notes.names name ≡ Some node

-- the command is this act
abbrev pub IsActOf : Bus → Command → Act → Type 0
IsActOf bus (Plug a a_port b b_port) x = (i : NodeNumber) × (j : NodeNumber) × IsNamed bus a i
    × IsNamed bus b j × (x ≡ act.Plug (end_of i a_port) (end_of j b_port))
IsActOf bus (Pull name port) x =
    (node : NodeNumber) × IsNamed bus name node × (x ≡ act.Pull (end_of node port))
IsActOf bus (Reset name) x = (node : NodeNumber) × IsNamed bus name node × (x ≡ act.Reset node)
IsActOf bus (Config name root_id gap) x =
    (node : NodeNumber) × IsNamed bus name node × (x ≡ config_of node root_id gap)
IsActOf bus command x = ⊥

-- the command pulls the cable at this end
abbrev pub IsPullOf : Bus → Command → End → Type 0
IsPullOf bus (Pull name port) end =
    (node_named bus.notes.names name ≡ Some end.node) × (end.port ≡ port_of port)
IsPullOf bus command end = ⊥

-- What a command does to the world of its bus, event by event. It has no act where the command
-- leaves the bus alone, and pulls no cable but that of a `pull`. Where the command is an act, this
-- comes first; and no turn passes where the command takes none.
pub record DoesEvents (bus : Bus) (command : Command) (after : Bus) : Type 0 where
  pub events : List Event
  pub run : Runs events bus.world after.world
  pub alone : LeavesAlone command → HasNoAct events
  pub pulls :
      (end : End) → Any (λ e. e ≡ acts (act.Pull end)) events → IsPullOf bus command end
  pub first :
      (a : Act) → IsActOf bus command a → (later : List Event) × (events ≡ acts a ∷ later)
  pub at_once : TakesNoTurn command → turn_count events ≡ 0
  pub names : after.notes.names ≡ bus.notes.names

-- the bus that the command left comes of that before it by events
pub record RunsOn (entry : Entry) : Type 0 where
  pub after : Bus
  pub is : entry.after ≡ running after
  pub does : DoesEvents (bus_of entry.before) entry.command after

-- so it is of each command that declares nothing
abbrev pub EachRunsOn : ScriptRun → Type 0
EachRunsOn run = All (λ (e : Entry). (Declares e.command → ⊥) → RunsOn e) run.entries

-- ---- a law

abbrev pub ScriptsAreRuns : Type 0
ScriptsAreRuns = (bytes : List ℕ) (run : ScriptRun) → IsRun bytes run → EachRunsOn run

-- The moments of a run: before and behind each command, and in it behind each act and each turn.
use Rattle.std.specs.Prelude.{◌≡◌, ℕ, zero, suc, List, [], ◌∷◌}
use Rattle.cable_world.specs.World.{CableWorld}
use Rattle.cable_world.specs.Turn.{turn}
use Rattle.settle.specs.Report.{quiet_turns_of}
use Rattle.script_lines.specs.declared.command.Command.{Command}
use Rattle.script_lines.specs.declared.command.Command.TheVariants.{Turn, Settle, Plan}
use Rattle.script_told.specs.Bus.{Bus}
use Rattle.script_told.specs.Script.{Stage, running, bus_of}
use Rattle.script_told.specs.EachPlan.{IsCarriedOut}

-- a world, and those behind each of so many turns
abbrev pub turn_worlds : ℕ → CableWorld → List CableWorld
turn_worlds zero w = w ∷ []
turn_worlds (suc k) w = w ∷ turn_worlds k (turn w)

-- A plan is carried out: its packet is sent, and the quiet turns are done.
pub record ArePlanWorlds (bus : Bus) (name : List ℕ) (after : Bus) (worlds : List CableWorld) :
    Type 0 where
  pub text : List ℕ
  pub is : IsCarriedOut bus name after text
  pub worlds_are :
      let sent = is.carried.sent.world in
      worlds ≡ bus.world ∷ turn_worlds (quiet_turns_of sent) sent

-- the worlds of a command that leads from a bus to the next, in order
abbrev pub AreWorlds : Bus → Command → Bus → List CableWorld → Type 0
AreWorlds bus (Turn count) after worlds = worlds ≡ turn_worlds count bus.world
AreWorlds bus Settle after worlds = worlds ≡ turn_worlds (quiet_turns_of bus.world) bus.world
AreWorlds bus (Plan name) after worlds = ArePlanWorlds bus name after worlds
AreWorlds bus command after worlds = worlds ≡ bus.world ∷ after.world ∷ []

-- the same from stage to stage: where a node is declared, no bus runs yet
abbrev pub AreWorldsAt : Stage → Command → Stage → List CableWorld → Type 0
AreWorldsAt stage command (running after) worlds = AreWorlds (bus_of stage) command after worlds
AreWorldsAt stage command next worlds = worlds ≡ []

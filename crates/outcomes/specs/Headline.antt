-- The theorem: a bus that is left alone settles.
--
-- What its words mean stands in these files, in reading order:
--
--   port_state   PowerOn, Heard, Tick  a node at power-on, what it hears, and the tick of its clock
--                Machine               a node with its coins
--   cabling      Wiring                cables
--   cable_world  World                 what a world is: nodes, cables, and signals on the wires
--                Turn                  a turn of all nodes
--                Act                   an act: a plug, a pull, a reset, a packet; and a hold
--                Times                 times of nodes that suit a bus
--                Run                   what comes of a power-on world, and what of quiet turns
--   convergence  Turns                 how many turns `turns_to_settle` are
--   cabling      Component             the component of a node
--                Looped, Sees          its core, and the tree that cables show from a root
--   cable_world  Outcome               the three outcomes: a loop, a tree, a contention
use Rattle.std.specs.Prelude.{◌<◌, ◌≤◌, ℕ, length}
use Rattle.cabling.specs.Component.{IsComponent}
use Rattle.cable_world.specs.World.{CableWorld, NodeNumber, NodeSet}
use Rattle.cable_world.specs.Run.{ComesOfPowerOn, Rests}
use Rattle.cable_world.specs.Outcome.{IsSettled}
use Rattle.convergence.specs.Turns.{turns_to_settle}

-- from the one world to the other no act came, and turns enough
pub record IsLeftAlone (w v : CableWorld) : Type 0 where
  pub turns : ℕ
  pub rests : Rests turns w v
  pub long : turns_to_settle w ≤ turns

-- each component has come to an outcome
abbrev pub AllSettled : CableWorld → Type 0
AllSettled w =
    (node : NodeNumber) (set : NodeSet) → node < length w.nodes → IsComponent w.cabling node set →
    IsSettled w set

-- a bus that is left alone settles
abbrev pub EveryBusSettles : Type 0
EveryBusSettles = (w v : CableWorld) → ComesOfPowerOn w → IsLeftAlone w v → AllSettled v

-- and each bus can be left alone
abbrev pub AnyBusCanBeLeftAlone : Type 0
AnyBusCanBeLeftAlone = (w : CableWorld) → (v : CableWorld) × IsLeftAlone w v

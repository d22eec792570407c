-- A world by its parts.
use Rattle.std.specs.Prelude.{ℕ, List}
use Rattle.cabling.specs.Wiring.{Wiring}
use Rattle.port_state.specs.declared.timing.Timing.{Timing}
use Rattle.port_state.specs.Machine.{PortNode}
use Rattle.cable_world.specs.Wire.{Wire}
use Rattle.cable_world.specs.World.{CableWorld}

abbrev pub world_record :
    ℕ → Timing → Wiring → List PortNode → List (List Wire) → List ℕ → ℕ → CableWorld
world_record delay longest cabling nodes wires changed turns = record {
  delay = delay;
  longest = longest;
  cabling = cabling;
  nodes = nodes;
  wires = wires;
  changed = changed;
  turns = turns;
}

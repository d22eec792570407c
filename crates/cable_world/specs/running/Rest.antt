-- Wires on which nothing is under way and which aren't held, and ends where nothing arrives.
use Rattle.std.specs.Prelude.{◌≡◌, List, [], All}
use Rattle.port_state.specs.declared.signal.Signal.{Signal}
use Rattle.cable_world.specs.Wire.{Wire, empty_wire}

abbrev pub AreAtRest : List Wire → Type 0
AreAtRest wires = All (λ (w : Wire). w ≡ empty_wire) wires

abbrev pub AreNone : List (List Signal) → Type 0
AreNone arrivals = All (λ (ss : List Signal). ss ≡ []) arrivals

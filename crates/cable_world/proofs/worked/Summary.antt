-- What the worked rows tell of a world.
use Rattle.port_state.specs.Clock.{even}
use Rattle.std.proofs.Common.{ℕ, Bool, true, false, List, [], ◌∷◌, Option, map}
use Rattle.self_id.specs.declared.node.Attrs.{Attrs}
use Rattle.port_state.specs.declared.signal.Phase.{Phase}
use Rattle.port_state.specs.declared.ports.PortView.{PortView}
use Rattle.port_state.specs.Timing.{usual_timing}
use Rattle.port_state.specs.PowerOn.{power_on}
use Rattle.port_state.specs.Coins.{coins_of_bits}
use Rattle.port_state.specs.Machine.{PortNode}
use Rattle.cabling.specs.declared.cable.End.{End}
use Rattle.cable_world.specs.World.{CableWorld}
use Rattle.cable_world.specs.Turn.{turns_after}
use Rattle.cable_world.specs.Act.{note_changes, plug, pull}

-- a link or none, S100 to S400 as 0 to 2, a contender or not; a gap count of 63
abbrev pub attrs : Bool → ℕ → Bool → Attrs
attrs link speed contender = record { link = link; gap = 63; speed = speed; delay = 0; contender = contender; power = 0; initiated = false }

-- a node at power-on, with the usual times where d is 4, which draws this coin again and again
abbrev pub node_of : ℕ → Attrs → ℕ → PortNode
node_of ports a coin = record { state = power_on ports a false (usual_timing 4); coins = coins_of_bits coin 1; clock = even }

-- with 3 ports, a link, S400 and no contender
abbrev pub plain_node : ℕ → PortNode
plain_node coin = node_of 3 (attrs true 2 false) coin

abbrev pub at : ℕ → ℕ → End
at node port = record { node = node; port = port }

-- the acts of plugging and pulling
abbrev pub after_plug : End → End → CableWorld → CableWorld
after_plug a b w = note_changes w (plug a b w)

abbrev pub after_pull : End → CableWorld → CableWorld
after_pull end w = note_changes w (pull end w)

-- of one node: its phase, how many coins it drew, its parent port, which ports lead to children,
-- its ID, and its list
pub record Summary : Type 0 where
  pub phase : Phase
  pub draws : ℕ
  pub parent : Option ℕ
  pub children : List Bool
  pub id : Option ℕ
  pub list : List ℕ

abbrev pub summary_of : PortNode → Summary
summary_of x = record {
  phase = x.state.view.phase;
  draws = x.state.view.draws;
  parent = x.state.view.parent;
  children = map (λ (p : PortView). p.child) x.state.view.ports;
  id = x.state.view.id;
  list = x.state.list.items;
}

-- of every node, by number
abbrev pub summaries : CableWorld → List Summary
summaries w = map summary_of w.nodes

-- the words of a row, in the same order
abbrev pub summary : Phase → ℕ → Option ℕ → List Bool → Option ℕ → List ℕ → Summary
summary phase draws parent children id list = record { phase = phase; draws = draws; parent = parent; children = children; id = id; list = list }

-- of 3 ports none leads to a child, or the first, or the first two
abbrev pub childless : List Bool
childless = false ∷ false ∷ false ∷ []

abbrev pub one_child : List Bool
one_child = true ∷ false ∷ false ∷ []

abbrev pub two_children : List Bool
two_children = true ∷ true ∷ false ∷ []

-- what is said of a world now, and after each of these stretches of turns
abbrev pub story : {A : Type 0} → (CableWorld → A) → List ℕ → CableWorld → List A
story say [] w = say w ∷ []
story say (n ∷ more) w = say w ∷ story say more (turns_after n w)

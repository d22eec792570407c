-- A wait in which a turn is missed is a turn longer, so a long wait has to be a turn longer too. The cable
-- of two nodes delays by up to two turns. Node 0 draws 1, and node 1, which waits for eight ticks, draws 0.
-- Holds let node 0 begin its wait a turn before node 1.
use Rattle.std.proofs.Common.{◌≡◌, ℕ, false, true, List, [], ◌∷◌, map, refl}
use Rattle.port_state.specs.declared.signal.Phase.{Phase}
use Rattle.port_state.specs.declared.signal.Phase.TheVariants.{ChildShake, ParentShake, Contend}
use Rattle.port_state.specs.declared.timing.Timing.{Timing}
use Rattle.port_state.specs.Timing.{usual_timing}
use Rattle.port_state.specs.PowerOn.{power_on}
use Rattle.port_state.specs.Clock.{Clock, even, every}
use Rattle.port_state.specs.Coins.{coins_of_bits}
use Rattle.port_state.specs.Entry.{enter}
use Rattle.port_state.specs.Heard.{on_signal}
use Rattle.port_state.specs.Tick.{tick}
use Rattle.port_state.specs.Machine.{PortNode}
use Rattle.cable_world.specs.World.{CableWorld, world_of_nodes}
use Rattle.cable_world.specs.Turn.{turn, turns_after}
use Rattle.cable_world.specs.Act.{hold}
use Rattle.cable_world.proofs.worked.Summary.{attrs, at, after_plug}
use Rattle.cable_world.proofs.worked.NeverSettles.{first_draws}

abbrev node : Timing → ℕ → Clock → PortNode
node t coin clock = record { state = power_on 1 (attrs true 2 false) false t; coins = coins_of_bits coin 1; clock = clock }

-- the long wait of node 0, and the clock of node 1
abbrev pair : ℕ → Clock → CableWorld
pair long clock =
    after_plug (at 0 0) (at 1 0)
    (world_of_nodes 2 (node (record (usual_timing 2) { long = long }) 1 even ∷ node (record (usual_timing 2) { short = 8 }) 0 clock ∷ []))

-- two turns after the end of node 1's wait
abbrev later : ℕ → ℕ → Clock → CableWorld
later long turns clock = turns_after 2 (hold (at 1 0) 1 (turns_after turns (hold (at 0 0) 5 (turns_after 128 (pair long clock)))))

abbrev phases : CableWorld → List Phase
phases w = map (λ (x : PortNode). x.state.view.phase) w.nodes

abbrev draws : CableWorld → List ℕ
draws w = map (λ (x : PortNode). x.state.view.draws) w.nodes

-- it misses a turn of that wait, and then each 101st
abbrev slow : Clock
slow = every 100 136

-- where no turn is missed, eleven turns are enough
wins-even : (phases (later 11 13 even) ≡ ChildShake ∷ ParentShake ∷ []) × (draws (later 11 13 even) ≡ 1 ∷ 1 ∷ [])
unfolding turn turns_after enter tick on_signal
wins-even = (refl, refl)

-- where one is, both draw a second coin, though the first ones aren't equal
once :
    (phases (later 11 14 slow) ≡ Contend ∷ Contend ∷ []) × (draws (later 11 14 slow) ≡ 2 ∷ 2 ∷ [])
    × (first_draws (later 11 14 slow) ≡ 3 ∷ 0 ∷ [])
unfolding turn turns_after enter tick on_signal
once = (refl, refl, refl)

-- with twelve they don't; the inequality asks for thirteen, as it asks for twelve where no turn is missed
wins : (phases (later 12 14 slow) ≡ ChildShake ∷ ParentShake ∷ []) × (draws (later 12 14 slow) ≡ 1 ∷ 1 ∷ [])
unfolding turn turns_after enter tick on_signal
wins = (refl, refl)

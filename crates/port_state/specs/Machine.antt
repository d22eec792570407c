-- A node with its coins, and what each call of a machine does to it.
use Rattle.std.specs.Prelude.{Bool, List, Option, Some, None, if◌then◌else◌}
use Rattle.port_state.specs.declared.signal.Signal.{Signal}
use Rattle.port_state.specs.declared.states.NodeState.{NodeState}
use Rattle.port_state.specs.Ports.{PortNumber}
use Rattle.port_state.specs.Sends.{PortSignal}
use Rattle.port_state.specs.Step.{Step, silent_step}
use Rattle.port_state.specs.Coins.{Coins, coin, coins_after}
use Rattle.port_state.specs.Clock.{Clock, misses, clock_after}
use Rattle.port_state.specs.Entry as entry
use Rattle.port_state.specs.Config.{ConfigPacket}
use Rattle.port_state.specs.Config as config
use Rattle.port_state.specs.Heard as heard
use Rattle.port_state.specs.Tick as row

pub record PortNode : Type 0 where
  pub state : NodeState
  pub coins : Coins
  pub clock : Clock

-- the node after a call, and what it sent
pub record NodeStep : Type 0 where
  pub node : PortNode
  pub sends : List PortSignal

abbrev pub after_step : PortNode → Step → NodeStep
after_step n s = record { node = record n { state = s.state }; sends = s.sends }

-- a turn of the clock: the coin that its tick draws if it begins a contention, or None where it
-- misses the turn
abbrev pub beat : PortNode → Option Bool
beat n = if misses n.clock then None else Some (coin n.coins)

-- a turn that is missed changes nothing
abbrev pub on_beat : Option Bool → NodeState → Step
on_beat None x = silent_step x
on_beat (Some coin) x = row.tick coin x

abbrev pub coins_on_beat : PortNode → Coins
coins_on_beat n =
    if misses n.clock then n.coins
    else (if row.draws_coin n.state then coins_after n.coins else n.coins)

-- one turn of the clock
abbrev pub node_tick : PortNode → NodeStep
node_tick n =
    let s = on_beat (beat n) n.state in
    record {
      node = record { state = s.state; coins = coins_on_beat n; clock = clock_after n.clock };
      sends = s.sends;
    }

-- every other call leaves the coins and the clock alone
abbrev pub node_on_signal : PortNumber → Signal → PortNode → NodeStep
node_on_signal port s n = after_step n (heard.on_signal port s n.state)

abbrev pub node_disturb : PortNode → NodeStep
node_disturb n = after_step n (entry.disturb n.state)

abbrev pub node_plugged : PortNumber → PortNode → NodeStep
node_plugged port n = after_step n (entry.plugged port n.state)

abbrev pub node_pulled : PortNumber → PortNode → NodeStep
node_pulled port n = after_step n (entry.pulled port n.state)

abbrev pub node_set_config : ConfigPacket → PortNode → PortNode
node_set_config packet n = record n { state = config.set_config packet n.state }

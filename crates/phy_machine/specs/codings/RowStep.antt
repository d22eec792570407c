-- A tick by the crates of the phases. No public contract cites this file.
use Rattle.std.specs.Prelude.{false, if◌then◌else◌}
use Rattle.port_state.specs.declared.signal.Phase.{Phase}
use Rattle.port_state.specs.declared.signal.Phase.TheVariants.{ResetStart, ResetWait, TreeStart, ChildShake, ParentShake, Contend, SelfIdent, Ready}
use Rattle.port_state.specs.declared.states.NodeState.{NodeState}
use Rattle.port_state.specs.Coins.{Coins, coin, coins_after}
use Rattle.port_state.specs.Step.{Step, silent_step}
use Rattle.port_state.specs.Contention.{has_rival, contend_row}
use Rattle.port_state.specs.TreeIdentify.{parent_shake_row}
use Rattle.port_state.specs.Tick.{does}
use Rattle.port_state.specs.Machine.{NodeStep}
use Rattle.phy_machine.specs.Node.{node_of}
use Rattle.bus_reset.specs.ResetStep.{reset_step}
use Rattle.tree_identify.specs.TreeStep.{tree_step}
use Rattle.self_identify.specs.IdentStep.{ident_step}

-- a step, and the coins after it
abbrev pub with_coins : Coins → Step → NodeStep
with_coins coins s = record { node = node_of s.state coins; sends = s.sends }

-- what a phase does to a record whose timer was raised
abbrev pub row_step : Phase → NodeState → Coins → NodeStep
row_step ResetStart x coins = with_coins coins (reset_step x)
row_step ResetWait x coins = with_coins coins (reset_step x)
row_step TreeStart x coins = with_coins coins (tree_step x)
row_step ChildShake x coins = with_coins coins (tree_step x)
row_step ParentShake x coins =
    if has_rival x then with_coins (coins_after coins) (does (coin coins) (parent_shake_row x) x)
    else with_coins coins (tree_step x)
row_step Contend x coins = with_coins coins (does false (contend_row x) x)
row_step SelfIdent x coins = with_coins coins (ident_step x)
row_step Ready x coins = with_coins coins (silent_step x)

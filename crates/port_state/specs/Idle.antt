-- Turns in which nothing happens.
use Rattle.std.specs.Prelude.{◌≡◌, ℕ, zero, suc, ◌+◌, ◌≤◌, ◌<◌, ◌↔◌, Bool, true, false, min, [], ◌∷◌}
use Rattle.port_state.specs.declared.states.NodeState.{NodeState}
use Rattle.port_state.specs.Row as row
use Rattle.port_state.specs.Row.{Row}
use Rattle.port_state.specs.Tick.{next_row}
use Rattle.port_state.specs.Names.{timer, KeepsBut}
use Rattle.port_state.specs.Clock.{misses, clock_on, ticks_in}
use Rattle.port_state.specs.Machine.{PortNode, node_tick}

-- the node after so many turns of its clock without a signal
abbrev pub after_ticks : ℕ → PortNode → PortNode
after_ticks zero n = n
after_ticks (suc k) n = (node_tick (after_ticks k n)).node

-- a turn that sends nothing and changes the timer alone
pub record IsIdleTick (n : PortNode) : Type 0 where
  pub sends : (node_tick n).sends ≡ []
  pub state : KeepsBut (timer ∷ []) n.state (node_tick n).node.state
  pub coins : (node_tick n).node.coins ≡ n.coins

-- each of the next so many turns is such a turn
abbrev pub IsIdleFor : ℕ → PortNode → Type 0
IsIdleFor count n = (k : ℕ) → k < count → IsIdleTick (after_ticks k n)

-- a row that changes nothing: none, or the timeout of a node that said so already
abbrev pub changes_nothing : Row → NodeState → Bool
changes_nothing row.none x = true
changes_nothing row.times_out x = x.view.timed_out
changes_nothing r x = false

-- the next tick has such a row
abbrev pub rests : NodeState → Bool
rests x = changes_nothing (next_row x) x

-- the record with its timer so many ticks on; the timer stays at its greatest value
abbrev pub with_later_timer : ℕ → NodeState → NodeState
with_later_timer count x = record x {
  view = record x.view { timer = min (x.view.timer + count) 65535 };
}

-- ---- laws

-- turns that the clock misses are idle
abbrev pub MissedTurnsAreIdle : Type 0
MissedTurnsAreIdle = (n : PortNode) → misses n.clock ≡ true → IsIdleTick n

-- idle ticks are told by their rows
abbrev pub IdleTicksByRow : Type 0
IdleTicksByRow = (n : PortNode) → misses n.clock ≡ false → IsIdleTick n ↔ (rests n.state ≡ true)

-- idle ticks raise the timer, one each
abbrev pub IdleTicksRaiseTimers : Type 0
IdleTicksRaiseTimers =
    (count : ℕ) (n : PortNode) → n.state.view.timer ≤ 65535 → IsIdleFor count n →
    after_ticks count n
    ≡ record n {
      state = with_later_timer (ticks_in count n.clock) n.state;
      clock = clock_on count n.clock;
    }

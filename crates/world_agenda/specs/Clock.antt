-- Nodes that stand at turns of their own.
use Rattle.std.specs.Prelude.{ℕ, ◌-◌}
use Rattle.port_state.specs.Machine.{PortNode}
use Rattle.port_state.specs.Idle.{after_ticks}

-- when so many turns are done, the node that stands at an earlier one: all turns since then were turns of
-- its clock too, in which it ticked or missed one
abbrev pub caught_up : ℕ → ℕ → PortNode → PortNode
caught_up turns clock n = after_ticks (turns - clock) n

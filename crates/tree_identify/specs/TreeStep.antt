-- A tick in T0, T1 and T2.
use Rattle.std.specs.Prelude.{false}
use Rattle.port_state.specs.declared.signal.Phase.{Phase}
use Rattle.port_state.specs.declared.signal.Phase.TheVariants.{TreeStart, ChildShake, ParentShake}
use Rattle.port_state.specs.declared.states.NodeState.{NodeState}
use Rattle.port_state.specs.Step.{Step}
use Rattle.port_state.specs.Row as row
use Rattle.port_state.specs.Row.{Row}
use Rattle.port_state.specs.TreeIdentify.{tree_start_row, child_shake_row, parent_shake_row}
use Rattle.port_state.specs.Tick.{does}

-- the row that applies in a phase; none outside T0, T1 and T2
abbrev pub tree_row : Phase → NodeState → Row
tree_row TreeStart x = tree_start_row x
tree_row ChildShake x = child_shake_row x
tree_row ParentShake x = parent_shake_row x
tree_row phase x = row.none

-- what it does, of a node that meets no rival; so none of these rows looks at a coin
abbrev pub tree_step : NodeState → Step
tree_step x = does false (tree_row x.view.phase x) x

-- The tick of a node: the timer rises, and then at most one row of the step table applies. The
-- standard's states R0, R1, T0, T1, T2 and T3 are the phases ResetStart, ResetWait, TreeStart,
-- ChildShake, ParentShake and Contend; S0, S1, S2 and S4 are the one phase SelfIdent, and A0 is
-- Ready.
use Rattle.std.specs.Prelude.{◌+◌, Bool, true, false, min}
use Rattle.port_state.specs.declared.signal.Phase.{Phase}
use Rattle.port_state.specs.declared.signal.Phase.TheVariants.{ResetStart, ResetWait, TreeStart, ChildShake, ParentShake, Contend, SelfIdent, Ready}
use Rattle.port_state.specs.declared.states.NodeState.{NodeState}
use Rattle.port_state.specs.Step.{Step, silent_step}
use Rattle.port_state.specs.Row as row
use Rattle.port_state.specs.Row.{Row}
use Rattle.port_state.specs.Resetting.{reset_start_row, ends_reset, reset_wait_row, begins_tree}
use Rattle.port_state.specs.TreeIdentify.{tree_start_row, takes_roles, times_out, child_shake_row, awaits_parent, parent_shake_row, becomes_root, finds_parent}
use Rattle.port_state.specs.Contention.{begins_contention, contend_row, takes_rival, asks_again}
use Rattle.port_state.specs.SelfIdentify.{self_ident_row, asks_child, names_itself}

-- the timer stays at its greatest value
abbrev pub raise_timer : NodeState → NodeState
raise_timer x = record x { view = record x.view { timer = min (x.view.timer + 1) 65535 } }

-- which row of a phase applies
abbrev pub row_of : Phase → NodeState → Row
row_of ResetStart x = reset_start_row x
row_of ResetWait x = reset_wait_row x
row_of TreeStart x = tree_start_row x
row_of ChildShake x = child_shake_row x
row_of ParentShake x = parent_shake_row x
row_of Contend x = contend_row x
row_of SelfIdent x = self_ident_row x
row_of Ready x = row.none

-- what a row does; one of them looks at the node's next coin
abbrev pub does : Bool → Row → NodeState → Step
does coin row.none x = silent_step x
does coin row.ends_reset x = ends_reset x
does coin row.begins_tree x = begins_tree x
does coin row.takes_roles x = takes_roles x
does coin row.times_out x = times_out x
does coin row.awaits_parent x = awaits_parent x
does coin row.becomes_root x = becomes_root x
does coin (row.finds_parent parent) x = finds_parent parent x
does coin (row.begins_contention parent) x = begins_contention coin parent x
does coin (row.takes_rival rival) x = takes_rival rival x
does coin (row.asks_again rival) x = asks_again rival x
does coin (row.asks_child port) x = asks_child port x
does coin row.names_itself x = names_itself x

-- the row that applies at the next tick
abbrev pub next_row : NodeState → Row
next_row x = row_of x.view.phase (raise_timer x)

unfoldable pub tick : Bool → NodeState → Step
tick coin x = does coin (next_row x) (raise_timer x)

-- the next tick begins a contention, and so draws a coin
abbrev pub row_draws_coin : Row → Bool
row_draws_coin (row.begins_contention parent) = true
row_draws_coin r = false

abbrev pub draws_coin : NodeState → Bool
draws_coin x = row_draws_coin (next_row x)

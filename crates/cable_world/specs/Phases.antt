-- Tests on phases, by the standard's states.
use Rattle.std.specs.Prelude.{ℕ, Bool, true, false, ◌||◌, if◌then◌else◌}
use Rattle.port_state.specs.declared.signal.Phase.{Phase}
use Rattle.port_state.specs.declared.signal.Phase.TheVariants.{ResetStart, ResetWait, TreeStart, ChildShake, ParentShake, Contend}

-- R0, R1 and T0: no port has a role yet
abbrev pub is_before_tree : Phase → Bool
is_before_tree ResetStart = true
is_before_tree ResetWait = true
is_before_tree TreeStart = true
is_before_tree phase = false

-- R1 and T0: the hold is over, and no port has a role yet
abbrev pub is_after_hold : Phase → Bool
is_after_hold ResetWait = true
is_after_hold TreeStart = true
is_after_hold phase = false

-- R0 and R1
abbrev pub is_in_bus_reset : Phase → Bool
is_in_bus_reset ResetStart = true
is_in_bus_reset ResetWait = true
is_in_bus_reset phase = false

-- T1 and T2
abbrev pub is_shaking : Phase → Bool
is_shaking ChildShake = true
is_shaking ParentShake = true
is_shaking phase = false

-- T3
abbrev pub is_contending : Phase → Bool
is_contending Contend = true
is_contending phase = false

-- the phases in which nothing was sent for as long as the timer tells, or one turn less: a node may
-- enter R0 in a turn before its clock ticks
abbrev pub is_timed : Phase → Bool
is_timed phase = is_before_tree phase || is_contending phase

abbrev pub slack : Phase → ℕ
slack phase = if is_contending phase then 0 else 1

-- The rows of the step table for a tick, with the standard's states from and to which they lead.
use Rattle.port_state.specs.Ports.{PortNumber}

-- Some name the port that they are about.
pub data Row : Type 0 where
  -- no row applies
  none : Row
  -- R0 to R1
  ends_reset : Row
  -- R1 to T0
  begins_tree : Row
  -- T0 to T1
  takes_roles : Row
  -- in T0
  times_out : Row
  -- T1 to T2
  awaits_parent : Row
  -- T2 to S0, of a node without and with a parent port
  becomes_root : Row
  finds_parent : PortNumber → Row
  -- T2 to T3
  begins_contention : PortNumber → Row
  -- T3 to T1 and to T2
  takes_rival : PortNumber → Row
  asks_again : PortNumber → Row
  -- in S0 to S2
  asks_child : PortNumber → Row
  -- S4 to A0
  names_itself : Row

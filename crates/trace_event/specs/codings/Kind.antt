-- Sorts of what happens. No public contract cites this file.
use Rattle.std.specs.Prelude.{Bool, true, false}
use Rattle.trace_event.specs.declared.event.What.{What}
use Rattle.trace_event.specs.declared.event.What.TheVariants.{Plug, Pull, Reset, Hold, Config, Enters, Timeout, ToParent, ToChild, Coin, PhyId, Sends, Misses}

-- an act or a hold
abbrev pub is_act : What → Bool
is_act (Plug a a_port b b_port) = true
is_act (Pull name port) = true
is_act (Reset name) = true
is_act (Hold name port turns) = true
is_act (Config name root_id gap) = true
is_act what = false

-- something at a node as a whole
abbrev pub is_of_node : What → Bool
is_of_node (Enters node phase) = true
is_of_node (Timeout node) = true
is_of_node (Coin node coin wait) = true
is_of_node (PhyId node id) = true
is_of_node (Misses node) = true
is_of_node what = false

-- something on a port of one
abbrev pub is_of_port : What → Bool
is_of_port (ToParent node port) = true
is_of_port (ToChild node port) = true
is_of_port (Sends node port signal) = true
is_of_port what = false

-- The node that the card itself is on its bus: the kernel writes its node ID, `0xffc1` or `ffc1`.
use Rattle.std.specs.Prelude.{ℕ, ◌%◌, ◌==◌, Option, Some, None, if◌then◌else◌}

-- the last six bits are the node's; 63 is no node's, where the card has no ID yet
abbrev pub local_of : Option ℕ → Option ℕ
local_of None = None
local_of (Some id) = if id % 64 == 63 then None else Some (id % 64)

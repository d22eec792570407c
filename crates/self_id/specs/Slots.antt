-- Slots: the places of a node's ports in its self-ID packets (IEEE 1394a-2000, self-ID packets).
-- Packet zero has three of them, packet n = 0 eight more, packet n = 1 the last five of sixteen.
use Rattle.std.specs.Prelude.{ℕ, nat_le, if◌then◌else◌}

-- how many slots a node with so many ports shows: those of the fewest packets with room for them
abbrev pub slot_count : ℕ → ℕ
slot_count ports = if nat_le ports 3 then 3 else (if nat_le ports 11 then 11 else 16)

use Rattle.std.proofs.Common.{◌≡◌, ◌++◌, drop}
use Rattle.quad_lanes.specs.Pairs.{bytes_of}
use Rattle.config_rom.proofs.rom.encode_rom.Given as goal

-- the bytes so far, and then those of the quadlets that are left, are the bytes of all
abbrev pub invariant-loop-quad : goal.invariant-loop-quad
invariant-loop-quad l = l.bytes.items ++ bytes_of (drop l.quad-index l.quad-items) ≡ bytes_of l.quad-items

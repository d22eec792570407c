use Rattle.std.proofs.Common.{◌≡◌, ◌<◌, ◌^◌, drop}
use Rattle.topology_map.specs.Crc.{bits_of, quad_bits}
use Rattle.topology_map.specs.codings.Register.{after_bits}
use Rattle.topology_map.proofs.crc.crc16.Given as goal

-- the quadlets that are left lead to what all quadlets lead to
abbrev pub invariant-loop-quad : goal.invariant-loop-quad
invariant-loop-quad l = (l.crc < 2 ^ 16) × (after_bits (bits_of 16 l.crc) (quad_bits (drop l.quad-index l.quads)) ≡ after_bits (bits_of 16 0) (quad_bits l.quads))

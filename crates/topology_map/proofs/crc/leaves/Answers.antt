use Rattle.std.proofs.Common.{ℕ, ◌*◌, ◌%◌, ap, ◌∙◌, bit_xor}
use Rattle.topology_map.specs.Crc.{bits_of}
use Rattle.topology_map.proofs.Bytes.{byte_left}
use Rattle.topology_map.proofs.crc.leaves.Goals as goal

pub returns : goal.returns
returns c =
    ap (λ (y : ℕ). bits_of 16 (bit_xor (bit_xor (y * 4096 % 65536) (y * 32 % 65536)) y)) c.from-sum.ensures
    ∙ byte_left c.args.byte c.ranges.byte.fits

use Rattle.topology_map.proofs.Bytes.{next_quad}
use Rattle.topology_map.proofs.crc.with_quad.Goals as goal

pub returns : goal.returns
returns c =
    next_quad c.args.before c.with_byte-first.result c.with_byte-second.result c.with_byte-third.result c.with_byte.result c.args.quad
    c.with_byte-first.ensures c.with_byte-second.ensures c.with_byte-third.ensures c.with_byte.ensures

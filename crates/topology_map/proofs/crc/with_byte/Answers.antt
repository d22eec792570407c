use Rattle.topology_map.proofs.Bytes.{next_byte}
use Rattle.topology_map.proofs.crc.with_byte.Goals as goal

pub returns : goal.returns
returns c = next_byte c.args.crc c.args.byte c.leaves.result c.ranges.crc.fits c.ranges.byte.fits c.leaves.ensures

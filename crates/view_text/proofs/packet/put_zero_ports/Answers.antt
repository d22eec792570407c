use Rattle.std.proofs.Common.{rules, append_assoc}
use Rattle.view_text.specs.Packet.{zero_ports}
use Rattle.view_text.proofs.packet.put_zero_ports.Goals as goal

pub returns : goal.returns
unfolding zero_ports
returns c = search (rules, append_assoc)

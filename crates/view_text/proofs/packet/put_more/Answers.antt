use Rattle.std.proofs.Common.{rules, append_assoc}
use Rattle.view_text.specs.Packet.{more_text}
use Rattle.view_text.proofs.packet.put_more.Goals as goal

pub returns : goal.returns
unfolding more_text
returns c = search (rules, append_assoc)

use Rattle.std.proofs.Common.{append_assoc}
use Rattle.view_text.specs.Packet.{link_on_text}
use Rattle.view_text.proofs.packet.put_link_on.Goals as goal

pub returns : goal.returns
unfolding link_on_text
returns c = simp (c.in_ok-put_reserved.ensures, c.in_ok-put_field.ensures, c.from.ensures, c.from-2.ensures, append_assoc)

use Rattle.std.proofs.Common.{append_assoc}
use Rattle.view_text.specs.Packet.{zero_link}
use Rattle.view_text.proofs.packet.put_zero_link.Goals as goal

pub returns : goal.returns
unfolding zero_link
returns c =
    simp (c.in_ok-put_field-3.ensures, c.in_ok-put_field-2.ensures, c.in_ok-put_flag.ensures, c.in_ok-put_field.ensures, c.from.ensures, c.from-2.ensures, c.from-3.ensures, append_assoc)

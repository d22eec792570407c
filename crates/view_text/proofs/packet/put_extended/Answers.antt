use Rattle.std.proofs.Common.{append_assoc}
use Rattle.view_text.specs.Packet.{extended_text}
use Rattle.view_text.proofs.packet.put_extended.Goals as goal

pub returns : goal.returns
unfolding extended_text
returns c =
    simp (c.in_ok-put_field-2.ensures, c.in_ok-put_field.ensures, c.from.ensures, c.from-2.ensures, append_assoc)

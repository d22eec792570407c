use Rattle.std.proofs.Common.{append_assoc}
use Rattle.view_text.specs.Packet.{zero_power}
use Rattle.view_text.proofs.packet.put_zero_power.Goals as goal

pub returns : goal.returns
unfolding zero_power
returns c =
    simp (c.in_ok-put_field.ensures, c.in_ok-put_flag.ensures, c.in_ok-put_reserved.ensures, c.from.ensures, c.from-2.ensures, append_assoc)

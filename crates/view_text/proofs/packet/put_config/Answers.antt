use Rattle.std.proofs.Common.{append_assoc}
use Rattle.view_text.specs.Packet.{config_text}
use Rattle.view_text.proofs.packet.put_config.Goals as goal

pub returns : goal.returns
unfolding config_text
returns c =
    simp (c.in_ok-put_reserved.ensures, c.in_ok-put_field-2.ensures, c.in_ok-put_flag-2.ensures, c.in_ok-put_flag.ensures, c.in_ok-put_field.ensures, c.from.ensures, c.from-2.ensures, c.from-3.ensures, append_assoc)

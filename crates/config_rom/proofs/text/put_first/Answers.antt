use Rattle.std.specs.Prelude.{codes}
use Rattle.config_rom.specs.Text.{field, state_text, first_line}
use Rattle.config_rom.proofs.Appended.{six}
use Rattle.config_rom.proofs.text.put_first.Goals as goal

pub returns : goal.returns
unfolding first_line
returns c =
    six c.args.out.now.items (field (codes "rom quadlets ") c.args.quads) (field (codes " info ") c.args.info_len) (field (codes " crc_length ") c.args.crc_length) (codes " crc ") (state_text c.args.state) (codes "\n")
    c.put_field.new.out.items c.put_field-2.new.out.items c.put_field-3.new.out.items c.extend_from_slice.new.self.items c.put_state.new.out.items c.push.new.self.items
    c.in_ok-put_field.ensures c.in_ok-put_field-2.ensures c.in_ok-put_field-3.ensures c.in_ok-extend_from_slice.ensures.items c.in_ok-put_state.ensures c.in_ok-push.ensures.items

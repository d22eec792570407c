use Rattle.view_text.proofs.OneDigit.{cable_is}
use Rattle.view_text.proofs.drawing.put_cable.Goals as goal

pub returns : goal.returns
returns c =
    cable_is c.args.out.now.items c.put_field.new.out.items c.extend_from_slice.new.self.items c.put_number.new.out.items c.extend_from_slice-2.new.self.items
    c.args.cable.port c.args.cable.speed c.args.cable.child_port
    (rw c.from.ensures at c.in_ok-put_field.ensures) (rw c.between_ports.ensures at c.in_ok-extend_from_slice.ensures.items)
    (rw c.from-2.ensures at c.in_ok-put_number.ensures) c.in_ok-extend_from_slice-2.ensures.items

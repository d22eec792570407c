use Rattle.c_border.specs.Places.{some}
use Rattle.busconf_c.proofs.tree.tell_image.Goals as goal

pub returns-in-Ok : goal.returns-in-Ok
returns-in-Ok c = rw c.in-Ok.is (some c.as_slice.result.now c.as_slice.ensures c.tell_quads.ensures)

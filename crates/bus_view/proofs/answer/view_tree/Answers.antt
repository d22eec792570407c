use Rattle.std.proofs.Common.{refl}
use Rattle.bus_view.specs.Answer.{spelt, refused}
use Rattle.bus_view.proofs.answer.view_tree.Goals as goal

pub returns-in_ok-tree_drawing-in-Ok : goal.returns-in_ok-tree_drawing-in-Ok
returns-in_ok-tree_drawing-in-Ok c = record {
  reading = spelt c.in-Ok.tree;
  reads = c.in-Ok.ensures.tree;
  status_is = refl;
  text_is = c.in_ok-tree_drawing-in-Ok.ensures;
}

pub returns-in_ok-line_text-in-Err-Fault : goal.returns-in_ok-line_text-in-Err-Fault
returns-in_ok-line_text-in-Err-Fault c = record {
  reading = refused c.in-Err-Fault.fault;
  reads = rw c.in-Err-Fault.field-0-is at c.in-Err-Fault.ensures.fault;
  status_is = refl;
  text_is = c.in_ok-line_text-in-Err-Fault.ensures;
}

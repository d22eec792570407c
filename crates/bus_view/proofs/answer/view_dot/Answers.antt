use Rattle.std.proofs.Common.{refl}
use Rattle.bus_view.specs.Answer.{spelt, refused}
use Rattle.bus_view.proofs.answer.view_dot.Goals as goal

pub returns-in_ok-tree_graph-in-Ok-clause-view : goal.returns-in_ok-tree_graph-in-Ok-clause-view
returns-in_ok-tree_graph-in-Ok-clause-view c = record {
  reading = spelt c.in-Ok.tree;
  reads = c.in-Ok.ensures.tree;
  status_is = refl;
  text_is = c.in_ok-tree_graph-in-Ok.ensures.text;
}

pub returns-in_ok-line_text-in-Err-Fault-clause-view : goal.returns-in_ok-line_text-in-Err-Fault-clause-view
returns-in_ok-line_text-in-Err-Fault-clause-view c = record {
  reading = refused c.in-Err-Fault.fault;
  reads = rw c.in-Err-Fault.field-0-is at c.in-Err-Fault.ensures.fault;
  status_is = refl;
  text_is = c.in_ok-line_text-in-Err-Fault.ensures;
}

pub returns-in_ok-tree_graph-in-Ok-clause-dot : goal.returns-in_ok-tree_graph-in-Ok-clause-dot
returns-in_ok-tree_graph-in-Ok-clause-dot c = λ zero. record {
  tree = c.in-Ok.tree;
  spelt = c.in-Ok.ensures.tree;
  is = c.in_ok-tree_graph-in-Ok.ensures.dot;
}

pub returns-in_ok-line_text-in-Err-Fault-clause-dot : goal.returns-in_ok-line_text-in-Err-Fault-clause-dot
returns-in_ok-line_text-in-Err-Fault-clause-dot c = λ zero. absurd (let h = zero in cc)

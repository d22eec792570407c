use Rattle.std.proofs.Common.{[], refl}
use Rattle.bus_json.specs.Bus.{tree_members}
use Rattle.reset_list.specs.Json.{list_fault, told_refused, told_heard}
use Rattle.reset_list.proofs.values.put_list.Goals as goal

pub returns-in_ok-put_tree-in-Ok : goal.returns-in_ok-put_tree-in-Ok
returns-in_ok-put_tree-in-Ok c = (
  tree_members [] c.in-Ok.tree,
  told_heard c.in-Ok.tree c.in-Ok.ensures.tree refl refl,
  c.in_ok-put_tree-in-Ok.ensures,
)

pub returns-in_ok-put_refusal-in-Err-Fault : goal.returns-in_ok-put_refusal-in-Err-Fault
returns-in_ok-put_refusal-in-Err-Fault c = (
  list_fault c.in-Err-Fault.fault,
  told_refused c.in-Err-Fault.fault (rw c.in-Err-Fault.field-0-is at c.in-Err-Fault.ensures.fault) refl refl,
  rw (← c.in-Err-Fault.fault-is) c.in_ok-put_refusal-in-Err-Fault.ensures,
)

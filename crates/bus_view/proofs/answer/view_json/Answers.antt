use Rattle.std.proofs.Common.{refl}
use Rattle.bus_json.specs.Bus.{bus_value}
use Rattle.bus_view.specs.Answer.{spelt, refused}
use Rattle.bus_view.proofs.answer.view_json.Goals as goal

pub returns-in_ok-bus_line-in-Ok-clause-view : goal.returns-in_ok-bus_line-in-Ok-clause-view
returns-in_ok-bus_line-in-Ok-clause-view c = record {
  reading = spelt c.in-Ok.tree;
  reads = c.in-Ok.ensures.tree;
  status_is = refl;
  text_is = c.in_ok-bus_line-in-Ok.ensures.line;
}

pub returns-in_ok-fault_json-in-Err-Fault-clause-view : goal.returns-in_ok-fault_json-in-Err-Fault-clause-view
returns-in_ok-fault_json-in-Err-Fault-clause-view c = record {
  reading = refused c.in-Err-Fault.fault;
  reads = rw c.in-Err-Fault.field-0-is at c.in-Err-Fault.ensures.fault;
  status_is = refl;
  text_is = c.in_ok-fault_json-in-Err-Fault.ensures.line;
}

pub returns-in_ok-bus_line-in-Ok-clause-json : goal.returns-in_ok-bus_line-in-Ok-clause-json
returns-in_ok-bus_line-in-Ok-clause-json c = record {
  value = bus_value c.in-Ok.tree;
  text_is = c.in_ok-bus_line-in-Ok.ensures.line;
  read_back = c.in_ok-bus_line-in-Ok.ensures.reads_back;
}

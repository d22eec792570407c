use Rattle.bus_json.specs.Refusal.{fault_value}
use Rattle.bus_view.proofs.refusal.fault_json.Goals as goal

pub returns-clause-json : goal.returns-clause-json
returns-clause-json c = record {
  value = fault_value c.args.fault;
  text_is = c.in_ok-line.ensures.line;
  read_back = c.in_ok-line.ensures.reads_back;
}

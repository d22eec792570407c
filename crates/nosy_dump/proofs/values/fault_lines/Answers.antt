use Rattle.bus_json.specs.Lines.{none}
use Rattle.bus_json.proofs.Lemmas.{one_line}
use Rattle.nosy_dump.proofs.Reading.{map_ok}
use Rattle.nosy_dump.proofs.values.fault_lines.Goals as goal

pub returns-in-Some-clause-json : goal.returns-in-Some-clause-json
returns-in-Some-clause-json c = map_ok c.fault_line.result _ _ (λ line is. one_line line.items is)
    c.fault_line.ensures.json

pub returns-in-None-clause-json : goal.returns-in-None-clause-json
returns-in-None-clause-json c = rw c.new.ensures.items none

use Rattle.script_run.proofs.Printed.{told-prints}
use Rattle.script_run.proofs.laws.told_texts_are_printed.Goals as goal

pub returns : goal.returns
returns c =
    told-prints c.reports_are_settled.ensures c.scripts_are_runs.ensures c.each_plan_comes_out.ensures
    c.each_config_comes_out.ensures c.each_waiting_node_becomes_root.ensures
    c.script_worlds_are_reached.ensures.reached c.wirings_are_slots.ensures.settled

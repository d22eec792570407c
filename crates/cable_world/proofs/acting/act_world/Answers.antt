use Rattle.cable_world.proofs.running.Acts.{ends-done, ends-accepted, ends-rows, ends-refused, ends-same, ends-memory}
use Rattle.cable_world.proofs.acting.act_world.Goals as goal

pub returns-clause-done : goal.returns-clause-done
returns-clause-done g c = ends-done c.args.act.now _ _ _ c.do_act.result c.do_act.ensures.ends

pub returns-clause-accepted : goal.returns-clause-accepted
returns-clause-accepted g c = ends-accepted c.args.act.now _ _ _ c.do_act.result c.do_act.ensures.ends

pub returns-clause-rows : goal.returns-clause-rows
returns-clause-rows g c = ends-rows c.args.act.now _ _ _ c.do_act.result c.do_act.ensures.ends

pub returns-clause-refused : goal.returns-clause-refused
returns-clause-refused g c = ends-refused c.args.act.now _ _ _ c.do_act.result c.do_act.ensures.ends

pub returns-clause-same : goal.returns-clause-same
returns-clause-same g c = ends-same c.args.act.now _ _ _ c.do_act.result c.do_act.ensures.ends

pub returns-clause-memory : goal.returns-clause-memory
returns-clause-memory g c = ends-memory c.args.act.now _ _ _ c.do_act.result c.do_act.ensures.ends

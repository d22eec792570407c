use Rattle.std.proofs.Common.{sym}
use Rattle.topology_stack.proofs.Streaming.{behind, group_refused}
use Rattle.topology_stack.proofs.Lasting.{lasting_group}
use Rattle.topology_stack.proofs.reader.behind_group.Goals as goal

pub returns-in_ok-after_node-in-Ok-clause-place : goal.returns-in_ok-after_node-in-Ok-clause-place
returns-in_ok-after_node-in-Ok-clause-place c = behind c.args.quads.now c.args.place c.in-Ok.node c.in-Ok.after c.in_ok-after_node-in-Ok.field-0 c.requires c.in-Ok.ensures.found (sym c.in_ok-after_node-in-Ok.ensures)

pub returns-in_default : goal.returns-in_default
returns-in_default c = record {
  place = tt;
  fault = (group_refused c.args.quads.now c.args.place c.in-Err.fault c.requires.place c.requires.open_ c.requires.some c.requires.room c.in-Err.ensures.refused, lasting_group c.in-Err.fault c.in_default.not-Cut);
}

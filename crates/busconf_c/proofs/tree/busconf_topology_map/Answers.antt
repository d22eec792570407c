use Rattle.std.proofs.Common.{length}
use Rattle.topology_stack.specs.Tree.{walk, emits}
use Rattle.topology_map.specs.Map.{IsMap}
use Rattle.busconf_c.specs.Answers.{told, stopped}
use Rattle.busconf_c.proofs.Telling.{tells_ok}
use Rattle.busconf_c.proofs.tree.busconf_topology_map.Goals as goal

pub returns-in-Ok-clause-answer : goal.returns-in-Ok-clause-answer
returns-in-Ok-clause-answer c =
    told c.in-Ok.tree c.in-Ok.ensures.found.0 c.in-Ok.ensures.found.1
    (tells_ok (IsMap c.args.generation (length (walk c.in-Ok.tree)) (emits c.in-Ok.tree)) c.image.result _ _ _ _ _ c.tell_image.ensures c.image.ensures)

pub returns-in-Err-clause-answer : goal.returns-in-Err-clause-answer
returns-in-Err-clause-answer c = stopped c.in-Err.ensures.none

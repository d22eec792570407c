use Rattle.busconf_c.specs.Maps.{IsSpeedMap}
use Rattle.busconf_c.specs.Answers.{told, stopped}
use Rattle.busconf_c.proofs.Telling.{tells_ok}
use Rattle.busconf_c.proofs.tree.busconf_speed_map.Goals as goal

pub returns-in-Ok-clause-answer : goal.returns-in-Ok-clause-answer
returns-in-Ok-clause-answer c =
    told c.in-Ok.tree c.in-Ok.ensures.found.0 c.in-Ok.ensures.found.1
    (tells_ok (IsSpeedMap c.args.generation c.in-Ok.tree) c.speed_image.result _ _ _ _ _ c.tell_image.ensures c.speed_image.ensures)

pub returns-in-Err-clause-answer : goal.returns-in-Err-clause-answer
returns-in-Err-clause-answer c = stopped c.in-Err.ensures.none

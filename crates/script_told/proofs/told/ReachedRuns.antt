-- The worlds of a script come of power-on.
use Rattle.std.proofs.lemmas.List.Elements.{All-weaker}
use Rattle.topology_stack.specs.OneAnswer.{NoListHasTwoTrees}
use Rattle.cable_world.specs.World.{CableWorld}
use Rattle.cable_world.proofs.Lemmas.{reached-comes}
use Rattle.cable_world.specs.Run.{IsReached}
use Rattle.outcomes.specs.Headline.{IsLeftAlone, AllSettled, EveryBusSettles}
use Rattle.cable_world.specs.Unchanged.{ActKeepsNodes}
use Rattle.script_told.specs.Run.{Entry}
use Rattle.script_told.specs.Reached.{world_of, ScriptWorldsAreReached, ScriptsConverge}
use Rattle.script_told.proofs.told.Reached.{stage-reached}
use Rattle.script_told.proofs.told.EachDone.{IsDone, each-done}

pub reached-runs : NoListHasTwoTrees → ActKeepsNodes → ScriptWorldsAreReached
reached-runs trees keeps bytes run x =
    All-weaker IsDone (λ (e : Entry). IsReached (world_of e.before) × IsReached (world_of e.after))
    (λ e is. (stage-reached e.before is.sound, stage-reached e.after is.left))
    run.entries (each-done trees keeps bytes run x).each

pub converging : NoListHasTwoTrees → ActKeepsNodes → EveryBusSettles → ScriptsConverge
converging trees keeps settles bytes run x =
    All-weaker IsDone (λ (e : Entry). (v : CableWorld) → IsLeftAlone (world_of e.after) v → AllSettled v)
    (λ e is v alone. settles (world_of e.after) v (reached-comes (world_of e.after) (stage-reached e.after is.left)) alone)
    run.entries (each-done trees keeps bytes run x).each

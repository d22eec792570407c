use Rattle.std.proofs.Common.{◌+◌, List, drop, sym, subst}
use Rattle.std.proofs.lemmas.List.{drop_more}
use Rattle.cabling.specs.declared.cable.Cable.{Cable}
use Rattle.cable_world.proofs.Lemmas.{lawful-now}
use Rattle.script_advice.specs.Advice.{PullsLead}
use Rattle.script_advice.specs.Advising.{ArePullable}
use Rattle.script_advice.proofs.Lemmas.{next-pullable}
use Rattle.script_bus.proofs.bus.Bus.pull_each.Goals as goal
use Rattle.cabling.proofs.Lemmas.{can-pull}

pub act_done-requires-clause-fits : goal.act_done-requires-clause-fits
act_done-requires-clause-fits c =
    let w = c.loop-cable.bus.world in
    let left = drop_more c.args.cables.now c.loop-cable.cable-index _ c.loop-cable-test.true in
    let here = subst (λ (xs : List Cable). ArePullable w.cabling xs) left c.loop-cable.invariant.0 in
    can-pull w.cabling _ _ here.0

pub loop-cable-preserved : goal.loop-cable-preserved
loop-cable-preserved c =
    let w = c.loop-cable.bus.world in
    let lawful = lawful-now w c.buses_are_sound.ensures.reached in
    let done = c.in_ok-bus.ensures.done in
    let left = drop_more c.args.cables.now c.loop-cable.cable-index _ c.loop-cable-test.true in
    let here = subst (λ (xs : List Cable). ArePullable w.cabling xs) left c.loop-cable.invariant.0 in (
      (next-pullable w _ _ (drop (c.loop-cable.cable-index + 1) c.args.cables.now) lawful.well_formed.cabling here done.1).1,
      (λ after more.
          c.loop-cable.invariant.1 after
          (subst (λ (xs : List Cable). PullsLead c.loop-cable.bus xs after) (sym left) (_, done, more))),
    )

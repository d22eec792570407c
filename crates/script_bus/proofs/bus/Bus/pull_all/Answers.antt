use Rattle.std.proofs.Common.{◌≡◌, ℕ, ◌<◌, ◌+◌, ◌++◌, List, length, drop, get_or, ap, sym, subst, ◌∙◌}
use Rattle.std.proofs.lemmas.List.{drop_more}
use Rattle.cabling.specs.declared.cable.Cable.{Cable}
use Rattle.cable_world.proofs.Lemmas.{lawful-now}
use Rattle.script_advice.specs.declared.advice.LoopAdvice.{LoopAdvice}
use Rattle.script_advice.specs.Advice.{all_pulls, PullsLead}
use Rattle.script_advice.specs.Advising.{ArePullable}
use Rattle.script_advice.proofs.Lemmas.{first-pullable, rest-pullable, pulls-append}
use Rattle.script_bus.proofs.bus.Bus.pull_all.Goals as goal

-- the pulls that are left are those of the next advice and of the rest
parted :
    (advices : List LoopAdvice) (at : ℕ) (a : LoopAdvice) (xs : List Cable) → at < length advices →
    a ≡ get_or advices at a → xs ≡ a.advice.pulls →
    all_pulls (drop at advices) ≡ xs ++ all_pulls (drop (at + 1) advices)
parted advices at a xs within is xs_are =
    ap all_pulls (drop_more advices at a within)
    ∙ ap (λ (b : LoopAdvice). b.advice.pulls ++ all_pulls (drop (at + 1) advices)) (sym is)
    ∙ ap (λ (ys : List Cable). ys ++ all_pulls (drop (at + 1) advices)) (sym xs_are)

pub pull_each-requires : goal.pull_each-requires
pull_each-requires c =
    let w = c.loop-advice.bus.world in
    let left = parted c.args.advices.now c.loop-advice.advice-index c.advice-item.result c.as_slice.result.now c.loop-advice-test.true c.advice-item.is c.as_slice.ensures in
    first-pullable w.cabling c.as_slice.result.now (all_pulls (drop (c.loop-advice.advice-index + 1) c.args.advices.now))
    (subst (ArePullable w.cabling) left c.loop-advice.invariant.0)

pub loop-advice-preserved : goal.loop-advice-preserved
loop-advice-preserved c =
    let bus = c.loop-advice.bus in
    let lawful = lawful-now bus.world c.buses_are_sound.ensures.reached in
    let done = c.in_ok-bus.ensures in
    let rest = all_pulls (drop (c.loop-advice.advice-index + 1) c.args.advices.now) in
    let left = parted c.args.advices.now c.loop-advice.advice-index c.advice-item.result c.as_slice.result.now c.loop-advice-test.true c.advice-item.is c.as_slice.ensures in (
      rest-pullable bus _ c.as_slice.result.now rest lawful.well_formed.cabling
          (subst (ArePullable bus.world.cabling) left c.loop-advice.invariant.0) done,
      (λ after more.
          c.loop-advice.invariant.1 after
          (subst (λ (xs : List Cable). PullsLead bus xs after) (sym left)
          (pulls-append bus _ after c.as_slice.result.now rest done more))),
    )

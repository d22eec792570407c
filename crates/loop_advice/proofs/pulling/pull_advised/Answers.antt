use Rattle.std.proofs.Common.{List, sym, ◌∙◌, subst}
use Rattle.std.proofs.lemmas.Option.{none-some}
use Rattle.cabling.specs.declared.cable.Cable.{Cable}
use Rattle.loop_advice.specs.Certificate.{IsCertificate}
use Rattle.loop_advice.proofs.Pulled.{pulled-none, still-plugged, pulled-step}
use Rattle.loop_advice.proofs.pulling.pull_advised.Goals as goal
use Rattle.cabling.proofs.Lemmas.{can-pull}

pub loop-cable-init : goal.loop-cable-init
loop-cable-init c = pulled-none c.args.cabling.now

pub unreachable-requires : goal.unreachable-requires
unreachable-requires c =
    let items = c.as_slice-cable-items.result.now in
    let valid = subst (λ (ps : List Cable). IsCertificate c.args.cabling.now c.args.node ps c.args.advice.now.kept) (sym c.as_slice-cable-items.ensures) c.requires in
    none-some _ (sym (can-pull c.loop-cable.cabling _ _ (still-plugged c.args.cabling.now c.loop-cable.cabling c.args.node items c.args.advice.now.kept c.loop-cable.cable-index _ valid c.loop-cable.invariant c.loop-cable-test.true))
    ∙ c.in-Err.ensures.fault)

pub loop-cable-preserved : goal.loop-cable-preserved
loop-cable-preserved c =
    let items = c.as_slice-cable-items.result.now in
    let valid = subst (λ (ps : List Cable). IsCertificate c.args.cabling.now c.args.node ps c.args.advice.now.kept) (sym c.as_slice-cable-items.ensures) c.requires in
    pulled-step c.args.cabling.now c.loop-cable.cabling c.pull.new.self c.args.node items c.args.advice.now.kept c.loop-cable.cable-index _ _
    c.cables_are_two_ended.ensures valid c.loop-cable.invariant c.loop-cable-test.true c.in-Ok.ensures.taken

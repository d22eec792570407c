use Rattle.std.proofs.Common.{◌∙◌, refl, sym, arith}
use Rattle.std.proofs.lemmas.Bool.{false≢true}
use Rattle.cable_world.proofs.Lemmas.{some-of}
use Rattle.script_trace.specs.Step.{seen_before_act}
use Rattle.script_trace.proofs.ActTouched.{seen-length}
use Rattle.script_trace.proofs.Picked.{all-picked, next-picked, next-unpicked}
use Rattle.script_trace.proofs.Walked.{act-seen}
use Rattle.script_trace.proofs.watch.seen_before_act.Goals as goal

pub loop-node-preserved : goal.loop-node-preserved
loop-node-preserved g c =
    let w = g.W.WorldRun.world c.args.world.now in
    let x = some-of _ _ c.view-view.ensures in
    next-picked c.args.touched c.loop-node.node (seen_before_act w 0 w.nodes) _ c.loop-node.seen.items _ _
    (act-seen w w.nodes c.loop-node.node x.0 c.view-view.result c.view-view.result.ports c.in_ok-there.there.items x.1 x.2 refl c.in_ok-there.ensures)
    (c.has.ensures.0 c.if-not-has.false) c.in_ok-push.ensures.items c.loop-node.invariant

pub loop-node-preserved-then-not-has : goal.loop-node-preserved-then-not-has
loop-node-preserved-then-not-has g c =
    let w = g.W.WorldRun.world c.args.world.now in
    next-unpicked c.args.touched c.loop-node.node (seen_before_act w 0 w.nodes) c.loop-node.seen.items _
    (omega (arith, c.loop-node-test.true, c.requires.nodes, seen-length w 0 w.nodes))
    (λ has. false≢true (sym c.if-not-has.true ∙ c.has.ensures.1 has)) c.loop-node.invariant

pub returns : goal.returns
returns g c =
    let w = g.W.WorldRun.world c.args.world.now in
    all-picked c.args.touched c.loop-node.node (seen_before_act w 0 w.nodes) c.loop-node.seen.items _
    (omega (arith, c.loop-node-test.false, c.requires.nodes, seen-length w 0 w.nodes)) c.loop-node.invariant

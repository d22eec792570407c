use Rattle.std.proofs.Common.{◌∙◌, map, sym, arith}
use Rattle.std.proofs.lemmas.Bool.{false≢true}
use Rattle.std.proofs.lemmas.List.{length-map}
use Rattle.cable_world.proofs.Lemmas.{some-of}
use Rattle.script_trace.specs.Step.{seen_before_turn}
use Rattle.script_trace.proofs.Picked.{all-picked, next-picked, next-unpicked}
use Rattle.script_trace.proofs.Walked.{missed-of, turn-seen}
use Rattle.script_trace.proofs.watch.seen_before_turn.Goals as goal

pub loop-node-preserved : goal.loop-node-preserved
loop-node-preserved g c =
    let w = g.W.WorldRun.world c.args.world.now in
    let x = some-of _ _ c.view.ensures in
    let y = some-of _ _ c.misses.ensures in
    next-picked c.args.touched c.loop-node.node (map seen_before_turn w.nodes) _ c.loop-node.seen.items _ _
    (turn-seen w.nodes c.loop-node.node x.0 c.view.result c.new.result.items c.misses.result x.1 x.2 c.new.ensures.items
    (missed-of w.nodes c.loop-node.node x.0 y.0 c.misses.result x.1 y.1 y.2))
    (c.has.ensures.0 c.if-not-has.false)
    c.in_ok-push.ensures.items c.loop-node.invariant

pub loop-node-preserved-then-not-has : goal.loop-node-preserved-then-not-has
loop-node-preserved-then-not-has g c =
    let w = g.W.WorldRun.world c.args.world.now in
    next-unpicked c.args.touched c.loop-node.node (map seen_before_turn w.nodes) c.loop-node.seen.items _
    (omega (arith, c.loop-node-test.true, c.requires.nodes, length-map w.nodes seen_before_turn))
    (λ has. false≢true (sym c.if-not-has.true ∙ c.has.ensures.1 has)) c.loop-node.invariant

pub returns : goal.returns
returns g c =
    let w = g.W.WorldRun.world c.args.world.now in
    all-picked c.args.touched c.loop-node.node (map seen_before_turn w.nodes) c.loop-node.seen.items _
    (omega (arith, c.loop-node-test.false, c.requires.nodes, length-map w.nodes seen_before_turn)) c.loop-node.invariant

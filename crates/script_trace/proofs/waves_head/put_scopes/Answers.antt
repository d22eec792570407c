use Rattle.std.proofs.Common.{ap, arith}
use Rattle.port_state.specs.declared.view.View.{View}
use Rattle.cable_world.proofs.Lemmas.{some-of}
use Rattle.script_trace.proofs.Walked.{all-told}
use Rattle.script_trace.proofs.waves.Walked.{next-scope, no-scope, steady-of}
use Rattle.script_trace.proofs.waves_head.put_scopes.Goals as goal

pub loop-node-preserved : goal.loop-node-preserved
loop-node-preserved g c =
    let w = g.W.WorldRun.world c.args.world.now in
    let x = some-of _ _ c.view-view.ensures in
    let y = some-of _ _ c.is_even-steady.ensures in
    next-scope c.args.names.now c.loop-node.node x.0 c.is_even-steady.result c.view-view.result.ports w.nodes c.loop-node.out.items _ _ x.1
    (steady-of w.nodes c.loop-node.node x.0 y.0 c.is_even-steady.result x.1 y.1 y.2)
    (ap (λ (u : View). u.ports) x.2) c.in_ok-put_scope.ensures c.loop-node.invariant

pub returns : goal.returns
returns g c =
    let w = g.W.WorldRun.world c.args.world.now in
    all-told c.loop-node.out.items _ _ (no-scope c.args.names.now c.loop-node.node w.nodes (omega (arith, c.loop-node-test.false, c.requires.nodes)))
    c.loop-node.invariant

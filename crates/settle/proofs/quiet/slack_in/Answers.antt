use Rattle.std.proofs.Common.{◌≡◌, ◌∙◌, ◌≤◌, length, slice_get, sym, ap, arith}
use Rattle.port_state.specs.Clock.{is_even}
use Rattle.port_state.specs.Machine.{PortNode}
use Rattle.cable_world.proofs.Lemmas.{some-of}
use Rattle.settle.proofs.SlackTold.{none-even, one-even, all-even, one-slow}
use Rattle.settle.proofs.quiet.slack_in.Goals as goal

pub loop-node-init : goal.loop-node-init
loop-node-init g c = none-even _

pub loop-node-preserved : goal.loop-node-preserved
loop-node-preserved g c =
    let nodes = (g.W.WorldRun.world c.args.world.now).nodes in
    let k = c.loop-node.node in
    let x = some-of (slice_get nodes k) (λ (y : PortNode). c.is_even.result ≡ is_even y.clock) c.is_even.ensures in
    one-even nodes k x.0 x.1 (sym x.2 ∙ c.if-not-is_even.false) c.loop-node.invariant

pub returns-then-not-is_even : goal.returns-then-not-is_even
returns-then-not-is_even g c =
    let nodes = (g.W.WorldRun.world c.args.world.now).nodes in
    let k = c.loop-node.node in
    let x = some-of (slice_get nodes k) (λ (y : PortNode). c.is_even.result ≡ is_even y.clock) c.is_even.ensures in
    sym (one-slow nodes k x.0 x.1 (sym x.2 ∙ c.if-not-is_even.true))

pub returns : goal.returns
returns g c =
    let w = g.W.WorldRun.world c.args.world.now in
    let long : length w.nodes ≤ c.loop-node.node = omega (arith, c.requires.count, ap length c.cabling.ensures, c.nodes-node-end.ensures.value, c.loop-node-test.false) in
    sym (all-even w.nodes c.loop-node.node long c.loop-node.invariant)

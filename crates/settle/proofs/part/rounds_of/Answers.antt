use Rattle.std.proofs.Common.{◌≡◌, ◌∙◌, true, length, slice_get, sym, ap, arith}
use Rattle.port_state.specs.declared.view.View.{View}
use Rattle.port_state.specs.Machine.{PortNode}
use Rattle.cable_world.proofs.Lemmas.{some-and}
use Rattle.settle.specs.Report.{Drew}
use Rattle.settle.proofs.Greatest.{highest-in, highest-out, highest-of-all, drew-one}
use Rattle.settle.proofs.Shown.{node-there}
use Rattle.settle.proofs.part.rounds_of.Goals as goal
use Rattle.settle.proofs.part.rounds_of.Goals.{then-has, else-has}

pub loop-node-preserved : goal.loop-node-preserved
loop-node-preserved g c =
    let w = g.W.WorldRun.world c.args.world.now in
    let k = c.loop-node.node in
    elim c.if-has.branch [
      | then-has t ↦
          highest-in c.args.set (Drew w) k c.loop-node.most t.view.result.draws c.if-has.most (drew-one w) c.loop-node.invariant
          (c.has.ensures.0 t.if-has.true)
          (some-and (slice_get w.nodes k) (λ (x : PortNode). t.view.result ≡ x.state.view) (λ (x : PortNode). x.state.view.draws ≡ t.view.result.draws) (λ x e. sym (ap (λ (v : View). v.draws) e)) t.view.ensures)
          (t.most-is ∙ t.max-most.ensures)
      | else-has t ↦
          highest-out c.args.set (Drew w) k c.loop-node.most c.if-has.most c.loop-node.invariant
          (λ inside. let is : c.has.result ≡ true = c.has.ensures.1 inside in absurd cc) t.most-is
    ]

pub returns : goal.returns
returns g c =
    let w = g.W.WorldRun.world c.args.world.now in
    highest-of-all c.args.set (Drew w) c.loop-node.node c.loop-node.most
    (λ k n is. omega (arith, node-there w k (λ (x : PortNode). x.state.view.draws ≡ n) is, c.requires.formed.count, ap length c.cabling.ensures, c.nodes-node-end.ensures.value, c.loop-node-test.false))
    c.loop-node.invariant

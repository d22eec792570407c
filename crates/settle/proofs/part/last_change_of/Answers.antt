use Rattle.std.proofs.Common.{◌≡◌, ◌∙◌, true, length, ap, arith}
use Rattle.std.proofs.lemmas.Option.{slice_get_within}
use Rattle.settle.specs.Report.{LastChanged}
use Rattle.settle.proofs.Greatest.{highest-in, highest-out, highest-of-all, changed-one}
use Rattle.settle.proofs.part.last_change_of.Goals as goal
use Rattle.settle.proofs.part.last_change_of.Goals.{then-has, else-has}

pub loop-node-preserved : goal.loop-node-preserved
loop-node-preserved g c =
    let w = g.W.WorldRun.world c.args.world.now in
    let k = c.loop-node.node in
    elim c.if-has.branch [
      | then-has t ↦
          highest-in c.args.set (LastChanged w) k c.loop-node.most t.changed.result c.if-has.most (changed-one w) c.loop-node.invariant
          (c.has.ensures.0 t.if-has.true) t.changed.ensures (t.most-is ∙ t.max-most.ensures)
      | else-has t ↦
          highest-out c.args.set (LastChanged w) k c.loop-node.most c.if-has.most c.loop-node.invariant
          (λ inside. let is : c.has.result ≡ true = c.has.ensures.1 inside in absurd cc) t.most-is
    ]

pub returns : goal.returns
returns g c =
    let w = g.W.WorldRun.world c.args.world.now in
    highest-of-all c.args.set (LastChanged w) c.loop-node.node c.loop-node.most
    (λ k n is. omega (arith, slice_get_within w.changed k n is, c.requires.formed.changes, ap length c.cabling.ensures, c.nodes-node-end.ensures.value, c.loop-node-test.false))
    c.loop-node.invariant

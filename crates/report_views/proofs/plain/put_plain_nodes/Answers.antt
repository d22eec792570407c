use Rattle.std.proofs.Common.{◌≡◌, ◌++◌, ℕ, subst, arith}
use Rattle.report_views.specs.PlainGraph.{nodes_below}
use Rattle.report_views.proofs.plain.put_plain_nodes.Goals as goal

pub returns : goal.returns
returns c =
    let end : c.loop-node.node ≡ 63 =
    omega (arith, c.loop-node-test.false, c.loop-node.auto.node-end) in
    let Is : ℕ → Type 0 = λ n. c.loop-node.out.items ≡ c.args.out.now.items ++ nodes_below c.args.names.now c.args.outcome.now c.args.set n in
    subst Is end c.loop-node.invariant

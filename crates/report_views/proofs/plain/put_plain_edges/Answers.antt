use Rattle.std.proofs.Common.{◌≡◌, ◌++◌, ℕ, subst, arith}
use Rattle.report_views.specs.PlainGraph.{edges_below}
use Rattle.report_views.proofs.plain.put_plain_edges.Goals as goal

pub returns : goal.returns
returns c =
    let end : c.loop-node.node ≡ 63 =
    omega (arith, c.loop-node-test.false, c.loop-node.auto.node-end) in
    let Is : ℕ → Type 0 = λ n. c.loop-node.out.items ≡ c.args.out.now.items ++ edges_below c.args.cabling.now c.args.set n in
    subst Is end c.loop-node.invariant

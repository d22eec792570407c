use Rattle.std.proofs.Common.{◌≡◌, ◌++◌, ℕ, subst, arith}
use Rattle.script_text.specs.ReportText.{spaced_below, all_spaced}
use Rattle.script_text.proofs.report.put_names.Goals as goal

pub returns : goal.returns
unfolding all_spaced
returns c =
    let end : c.loop-node.node ≡ 63 =
    omega (arith, c.loop-node-test.false, c.loop-node.auto.node-end) in
    let Is : ℕ → Type 0 = λ n.
    c.loop-node.out.items ≡ c.args.out.now.items ++ spaced_below c.args.names.now c.args.set n in
    subst Is end c.loop-node.invariant

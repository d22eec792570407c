use Rattle.std.proofs.Common.{◌≡◌, ◌++◌, ℕ, subst, arith}
use Rattle.script_made.specs.Made.{text_of, node_line, node_lines}
use Rattle.script_made.proofs.MadeLines.{line_more}
use Rattle.script_made.proofs.made.put_nodes.Goals as goal

pub loop-node-preserved : goal.loop-node-preserved
loop-node-preserved c =
    line_more (λ k. node_line c.args.seed k) c.loop-node.node _ _ _ c.loop-node.invariant
    c.in_ok-put_node.ensures

pub returns : goal.returns
returns c =
    let end : c.loop-node.node ≡ c.args.n =
    omega (arith, c.loop-node-test.false, c.loop-node.auto.node-end) in
    let Is : ℕ → Type 0 = λ n.
    c.loop-node.out.items ≡ c.args.out.now.items ++ text_of (node_lines c.args.seed n) in
    subst Is end c.loop-node.invariant

use Rattle.std.proofs.Common.{◌<◌, ◌∙◌, length, arith}
use Rattle.script_text.proofs.ReportParts.{names-more}
use Rattle.script_text.proofs.report.names_in.Goals as goal

pub loop-node-preserved : goal.loop-node-preserved
loop-node-preserved c =
    let within : c.loop-node.node-index < length c.args.order.now =
    omega (arith, c.loop-node-test.true, c.loop-node.auto.node-index-end) in
    c.in_ok-push.ensures.ok
    ∙ names-more c.args.names.now c.args.order.now c.loop-node.node-index c.loop-node.list
    c.in_ok-clone.field-0 c.index-names-node.result within (c.requires c.loop-node.node-index 0 within)
    c.loop-node.invariant (c.in_ok-clone.ensures.cases ∙ c.index-names-node.is)

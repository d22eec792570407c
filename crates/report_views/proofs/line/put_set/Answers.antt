use Rattle.std.proofs.Common.{◌≡◌, arith}
use Rattle.report_views.specs.ReportJson.{set_names}
use Rattle.report_views.proofs.Components.{name_more, names_end}
use Rattle.report_views.proofs.line.put_set.Goals as goal

pub loop-node-preserved : goal.loop-node-preserved
loop-node-preserved c =
    name_more c.args.names.now c.args.set c.loop-node.node c.loop-node.out c.put_held.new.out _ (omega (arith, c.loop-node-test.true)) c.in_ok-put_held.ensures c.loop-node.invariant

pub returns : goal.returns
unfolding set_names
returns c =
    let end : c.loop-node.node ≡ 63 = omega (arith, c.loop-node-test.false, c.loop-node.auto.node-end) in
    names_end c.args.names.now c.args.set c.loop-node.node c.args.out.now c.open_list.new.self c.loop-node.out c.close_list.new.self _ end
    c.in_ok-open_list.ensures c.loop-node.invariant c.in_ok-close_list.ensures

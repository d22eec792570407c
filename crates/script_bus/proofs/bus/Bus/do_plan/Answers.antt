use Rattle.std.proofs.Common.{◌++◌, refl}
use Rattle.script_told.specs.Step.{PlansAs}
use Rattle.script_bus.proofs.Hearing.{reported-text}
use Rattle.script_bus.proofs.PlansAsked.{asked-comes, carried-out, carries-out}
use Rattle.script_bus.proofs.bus.Bus.do_plan.Goals as goal

pub returns-clause-done : goal.returns-clause-done
returns-clause-done g c =
    let before = c.args.self in
    let ready = c.in_ok-node.ensures.is in
    let node = c.in_ok-node.node in
    let planned = c.in_ok-node.planned in
    let report = c.in_ok-bus.ensures.0 in
    let sent = c.in_ok-bus.ensures.1.sent in (
      report,
      reported-text sent.sent _ report sent.reports,
      asked-comes before c.args.name.now node ready.id ready.manager ready.asked (PlansAs before c.args.name.now) _
          (carried-out before c.args.name.now node ready.id ready.manager ready.tree _ ready.is_manager ready.within ready.settled
          (carries-out before _ c.args.name.now node ready.tree planned.plan planned.line.items report _ ready.planned sent refl)),
    )

pub returns-clause-heard : goal.returns-clause-heard
returns-clause-heard g c =
    let before = c.args.self in
    let after = c.in_ok-bus.bus in
    let ready = c.in_ok-node.ensures.is in
    let node = c.in_ok-node.node in
    let planned = c.in_ok-node.planned in
    let report = c.in_ok-bus.ensures.0 in
    let text = planned.line.items ++ report in
    let sent = c.in_ok-bus.ensures.1 in
    record {
      lines = _;
      traces = record {
        node = node;
        named = ready.asked.named;
        tree = ready.tree;
        settled = ready.settled;
        text = text;
        carried = carries-out before after c.args.name.now node ready.tree planned.plan planned.line.items report text ready.planned sent.sent refl;
        lines_are = refl;
      };
      written = sent.written;
    }

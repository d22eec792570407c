use Rattle.std.proofs.Common.{refl}
use Rattle.report_views.specs.ReportJson.{contention_member, loop_member}
use Rattle.report_views.proofs.line.put_outcome.Goals as goal

pub returns-in_ok-put_contention-in-Contention : goal.returns-in_ok-put_contention-in-Contention
returns-in_ok-put_contention-in-Contention c = record {
  members = contention_member c.args.names.now c.in-Contention.a c.in-Contention.b;
  told = rw c.in-Contention.is refl;
  is = c.in_ok-put_contention-in-Contention.ensures;
}

pub returns-in_ok-put_loop-in-Loop : goal.returns-in_ok-put_loop-in-Loop
returns-in_ok-put_loop-in-Loop c = record {
  members = loop_member c.args.names.now c.in-Loop.nodes;
  told = rw c.in-Loop.is refl;
  is = c.in_ok-put_loop-in-Loop.ensures;
}

use Rattle.std.proofs.Common.{◌-◌, ◌∙◌, drop, ap, arith}
use Rattle.cable_world.specs.running.Rows.{on_port}
use Rattle.cable_world.proofs.running.Tally.{signals-behind}
use Rattle.cable_world.proofs.tally.Tally.signals.Goals as goal

pub returns : goal.returns
returns c =
    let known = c.known-known.ensures c.args.sent.now c.requires in
    c.behind-3.ensures
    ∙ ap (λ sent. drop (c.args.past - c.known-known.result) (on_port c.args.port sent)) c.behind-2.ensures
    ∙ signals-behind c.args.port c.args.self.now.entries c.known-known.result c.args.past c.args.sent.now known (omega (arith, c.if-past-known.false))

use Rattle.std.proofs.Common.{◌≡◌, ◌∙◌, length, drop, ap, arith}
use Rattle.cable_world.specs.running.Rows.{on_port}
use Rattle.cable_world.proofs.running.Tally.{count-split, few-on}
use Rattle.cable_world.proofs.tally.Tally.count.Goals as goal

pub returns : goal.returns
returns c =
    let known = c.known.ensures c.args.sent.now c.requires in
    let others : c.count_on.result ≡ length (on_port c.args.port (drop c.args.self.now.entries c.args.sent.now)) =
    c.count_on.ensures ∙ ap (λ sent. length (on_port c.args.port sent)) c.behind.ensures in
    omega (arith, known, others, count-split c.args.port c.args.self.now.entries c.args.sent.now)

pub overflow_add-result : goal.overflow_add-result
overflow_add-result c =
    let all = returns c in
    let few = few-on c.args.port c.args.sent.now in
    search (arith, all, few)

use Rattle.std.proofs.Common.{◌≡◌, ◌∙◌, ◌≤◌, length, ap, arith}
use Rattle.cable_world.proofs.Lemmas.{lawful-now, short-now}
use Rattle.convergence.proofs.Lemmas.{slack-most}
use Rattle.settle.specs.Report.{IsSized}
use Rattle.settle.proofs.TurnsGiven.{sized, given-by}
use Rattle.settle.proofs.quiet.quiet_turns_for.Goals as goal

pub quiet_turns-requires-clause-some_delay : goal.quiet_turns-requires-clause-some_delay
quiet_turns-requires-clause-some_delay g c =
    omega (arith, c.delay-delay.ensures, (lawful-now (g.W.WorldRun.world c.args.world.now) c.requires).well_formed.some_delay)

pub quiet_turns-requires-clause-short_delay : goal.quiet_turns-requires-clause-short_delay
quiet_turns-requires-clause-short_delay g c =
    omega (arith, c.delay-delay.ensures, short-now (g.W.WorldRun.world c.args.world.now) c.requires)

pub slack_in-requires : goal.slack_in-requires
slack_in-requires g c = (lawful-now (g.W.WorldRun.world c.args.world.now) c.requires).well_formed

pub turns_to_settle-requires-clause-short_delay : goal.turns_to_settle-requires-clause-short_delay
turns_to_settle-requires-clause-short_delay g c =
    omega (arith, c.delay-delay.ensures, short-now (g.W.WorldRun.world c.args.world.now) c.requires)

pub turns_to_settle-requires-clause-short_slack : goal.turns_to_settle-requires-clause-short_slack
turns_to_settle-requires-clause-short_slack g c =
    omega (arith, c.slack_in.ensures, slack-most (g.W.WorldRun.world c.args.world.now))

pub returns : goal.returns
returns g c =
    let w = g.W.WorldRun.world c.args.world.now in
    let n = c.nodes-nodes.result in
    let d = c.delay-delay.result in
    let is : IsSized w n d c.longest.result c.slack_in.result =
    sized w n d c.longest.result c.slack_in.result c.requires (c.nodes-nodes.ensures.value ∙ ap length c.cabling.ensures) c.delay-delay.ensures c.longest.ensures c.slack_in.ensures in
    c.max.ensures ∙ given-by w n d c.longest.result c.slack_in.result c.quiet_turns.result c.turns_to_settle.result is c.quiet_turns.ensures (c.turns_to_settle.ensures w is)

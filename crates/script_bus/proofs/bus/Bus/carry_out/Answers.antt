use Rattle.std.proofs.Common.{◌≡◌, ◌+◌, true, Some, ap, ◌∙◌, arith}
use Rattle.std.specs.Prelude.{nat_lt}
use Rattle.cable_world.specs.declared.act.Act.TheVariants.{Config}
use Rattle.settle.specs.Report.{quiet_turns_of}
use Rattle.settle.proofs.Lemmas.{same-quiet}
use Rattle.script_bus.proofs.Hearing.{sent-heard}
use Rattle.script_bus.proofs.bus.Bus.carry_out.Goals as goal

pub pass-requires : goal.pass-requires
pass-requires g c =
    let w = c.args.self.world in
    let s = c.in_ok-sent.sent.world in
    let sent = c.in_ok-sent.ensures in
    let quiet = same-quiet (Config c.args.node c.args.plan.now.root_id true (Some c.args.plan.now.gap)) w s c.buses_are_sound.ensures.reached c.buses_are_sound-2.ensures.reached sent.sent.sends.1 in
    let same : s.turns + quiet_turns_of s ≡ w.turns + quiet_turns_of w = omega (arith, quiet, sent.passed.turns) in
    ap (nat_lt 2000000) same ∙ c.requires.within

pub returns : goal.returns
returns g c =
    let passed = c.in_ok-settled.ensures in (
      passed.reports.0,
      sent-heard g.L.Listener.voice c.args.self c.in_ok-sent.sent c.in_ok-settled.settled c.args.name.now c.args.node c.args.plan.now _ _ _ _
          c.in_ok-sent.ensures.sent passed.reports.1 passed.heard,
    )

use Rattle.script_bus.proofs.Hearing.{settles-within, settle-hears, reported-text}
use Rattle.script_bus.proofs.bus.Bus.settled.Goals as goal

pub returns-clause-done : goal.returns-clause-done
returns-clause-done g c =
    let reports = c.in_ok-pass.ensures.reports in (
      reports.0,
      reported-text c.args.self _ reports.0 reports.1,
      settles-within c.args.self _ c.in_ok-check_quiet_turns.ensures.within reports.1,
    )

pub returns-clause-heard : goal.returns-clause-heard
returns-clause-heard g c =
    settle-hears g.L.Listener.voice c.args.self _ _ _ _ c.in_ok-pass.ensures.reports.1 c.in_ok-pass.ensures.heard

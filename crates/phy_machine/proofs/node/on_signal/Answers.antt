use Rattle.std.proofs.Common.{rules, ◌≡◌}
use Rattle.port_state.specs.Heard.{on_signal}
use Rattle.port_state.proofs.Lemmas.{sound-on_signal}
use Rattle.phy_machine.proofs.node.on_signal.Goals as goal

pub returns-in-Some-clause-valid : goal.returns-in-Some-clause-valid
returns-in-Some-clause-valid c =
    let e : c.hear_level.new.s ≡ (on_signal c.args.port c.args.signal c.args.s.now).state = search rules in
    rw e (sound-on_signal c.args.port c.args.signal c.args.s.now c.requires.valid).valid

pub returns-in-None-clause-valid : goal.returns-in-None-clause-valid
returns-in-None-clause-valid c =
    let e : c.ident_signal_into.new.s ≡ (on_signal c.args.port c.args.signal c.args.s.now).state = search rules in
    rw e (sound-on_signal c.args.port c.args.signal c.args.s.now c.requires.valid).valid

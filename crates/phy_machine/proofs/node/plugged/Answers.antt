use Rattle.std.proofs.Common.{rules, ◌≡◌}
use Rattle.port_state.specs.Entry.{plugged}
use Rattle.port_state.proofs.Lemmas.{sound-plugged}
use Rattle.phy_machine.proofs.node.plugged.Goals as goal

pub returns-clause-valid : goal.returns-clause-valid
returns-clause-valid c =
    let e : c.enter_into.new.s ≡ (plugged c.args.port c.args.s.now).state = search rules in
    rw e (sound-plugged c.args.port c.args.s.now c.requires.bounded).valid

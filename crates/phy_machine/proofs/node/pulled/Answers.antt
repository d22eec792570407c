use Rattle.std.proofs.Common.{rules, ◌≡◌}
use Rattle.port_state.specs.Entry.{pulled}
use Rattle.port_state.proofs.Lemmas.{sound-pulled}
use Rattle.phy_machine.proofs.node.pulled.Goals as goal

pub returns-clause-valid : goal.returns-clause-valid
returns-clause-valid c =
    let e : c.enter_into.new.s ≡ (pulled c.args.port c.args.s.now).state = search rules in
    rw e (sound-pulled c.args.port c.args.s.now c.requires.bounded).valid

use Rattle.port_state.proofs.Lemmas.{sound-disturb}
use Rattle.phy_machine.proofs.node.disturb.Goals as goal

pub returns-clause-valid : goal.returns-clause-valid
returns-clause-valid c = rw c.enter_into.ensures.state (sound-disturb c.args.s.now c.requires.bounded).valid

use Rattle.port_state.proofs.Lemmas.{valid-resetting_gap}
use Rattle.phy_machine.proofs.node.reset_gaps.Goals as goal

pub returns-clause-valid : goal.returns-clause-valid
returns-clause-valid c = valid-resetting_gap c.args.s.now c.requires.valid

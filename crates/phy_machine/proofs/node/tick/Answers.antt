use Rattle.std.proofs.Common.{◌≡◌, ap}
use Rattle.port_state.specs.Coins.{coin}
use Rattle.port_state.proofs.Lemmas.{sound-tick}
use Rattle.phy_machine.proofs.TickRows.{tick-row_step}
use Rattle.phy_machine.proofs.node.tick.Goals as goal

pub returns-clause-node : goal.returns-clause-node
returns-clause-node c =
    rw (ap (λ s. s.node) (tick-row_step c.args.s.now c.args.coins.now))
    rw (← c.saturating_add-s.ensures) c.take_row.ensures.node

pub returns-clause-sends : goal.returns-clause-sends
returns-clause-sends c =
    rw (ap (λ s. s.sends) (tick-row_step c.args.s.now c.args.coins.now))
    rw (← c.saturating_add-s.ensures) c.take_row.ensures.sends

pub returns-clause-valid : goal.returns-clause-valid
returns-clause-valid c =
    let e : c.take_row.new.s ≡ _ = ap (λ n. n.state) (returns-clause-node c) in
    rw e (sound-tick (coin c.args.coins.now) c.args.s.now c.requires.valid).valid

use Rattle.std.proofs.Common.{◌-◌, arith, sym, subst}
use Rattle.port_state.specs.Idle.{IsIdleFor}
use Rattle.world_agenda.proofs.Late.{idle-then}
use Rattle.world_agenda.proofs.node.AgendaNode.catch_up.Goals as goal

pub invariant_of-self : goal.invariant_of-self
invariant_of-self g c =
    let self = c.args.self.now in
    let behind = c.saturating_sub-behind.result in
    record {
      rests = subst (λ n. IsIdleFor (self.idle - behind) n) (sym c.pass.ensures)
          (idle-then behind self.idle (self.idle - behind) (g.M.PortMachine.record_of self.machine)
          (omega (arith, c.requires, c.saturating_sub-behind.ensures)) self.rests);
    }

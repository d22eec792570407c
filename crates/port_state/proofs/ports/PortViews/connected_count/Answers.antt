use Rattle.std.proofs.Common.{refl}
use Rattle.port_state.proofs.PortLists.{count-ports}
use Rattle.port_state.proofs.ports.PortViews.connected_count.Goals as goal

pub returns-clause-value : goal.returns-clause-value
returns-clause-value c =
    rw (← c.self.view_is)
    (count-ports (λ p. p.connected) c.self.inside.words c.self.inside.count c.self.inside.words.connected c.self.invariant.1.connected (λ k. refl))

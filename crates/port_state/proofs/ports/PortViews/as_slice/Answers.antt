use Rattle.std.proofs.Common.{◌∙◌}
use Rattle.port_state.proofs.PortLists.{all-first}
use Rattle.port_state.proofs.ports.PortViews.as_slice.Goals as goal

pub returns : goal.returns
returns c =
    all-first c.self.inside.words c.self.inside.views c.self.inside.count c.from.result c.from.ensures c.self.invariant.0 c.self.invariant.2
    ∙ c.self.view_is

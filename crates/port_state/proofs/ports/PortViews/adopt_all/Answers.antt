use Rattle.std.proofs.Common.{◌∙◌}
use Rattle.port_state.specs.TreeIdentify.{adopt}
use Rattle.port_state.proofs.PortLists.{map-ports, all-mapped}
use Rattle.port_state.proofs.ports.PortViews.adopt_all.Goals as goal

pub invariant_of-self : goal.invariant_of-self
invariant_of-self c = (
  c.self.invariant.0,
  c.adopt_all.ensures.fits c.self.inside.count c.self.invariant.1,
  c.adopt_each.ensures
      ∙ all-mapped adopt c.self.inside.words c.adopt_all.new.self c.self.inside.views c.self.invariant.2 c.adopt_all.ensures.ports,
)

pub returns : goal.returns
returns c =
    rw (← c.self.view_is)
    (map-ports adopt c.self.inside.count c.self.inside.words c.adopt_all.new.self c.adopt_all.ensures.ports)

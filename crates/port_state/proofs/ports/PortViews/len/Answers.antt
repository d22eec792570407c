use Rattle.std.proofs.Common.{sym, ◌∙◌}
use Rattle.port_state.proofs.PortLists.{ports-counted}
use Rattle.port_state.proofs.ports.PortViews.len.Goals as goal

pub returns-clause-value : goal.returns-clause-value
returns-clause-value c = c.from.ensures ∙ sym (ports-counted c.self.inside.count c.self.inside.words c.args.self.now c.self.view_is)

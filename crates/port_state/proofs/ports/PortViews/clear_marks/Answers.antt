use Rattle.std.proofs.Common.{sym, ◌∙◌}
use Rattle.port_state.specs.Entry.{without_marks}
use Rattle.port_state.proofs.PortLists.{map-ports, all-mapped}
use Rattle.port_state.proofs.ports.PortViews.clear_marks.Goals as goal

pub invariant_of-self : goal.invariant_of-self
invariant_of-self c = (
  c.self.invariant.0,
  c.clear_marks.ensures.fits c.self.inside.count c.self.invariant.1,
  c.unmark_all.ensures
      ∙ all-mapped without_marks c.self.inside.words c.clear_marks.new.self c.self.inside.views c.self.invariant.2 c.clear_marks.ensures.ports,
)

pub returns-then-has_marks : goal.returns-then-has_marks
returns-then-has_marks c =
    rw (← c.self.view_is)
    (map-ports without_marks c.self.inside.count c.self.inside.words c.clear_marks.new.self c.clear_marks.ensures.ports)

pub returns-else-has_marks : goal.returns-else-has_marks
returns-else-has_marks c =
    rw (← c.self.view_is)
    (map-ports without_marks c.self.inside.count c.self.inside.words c.self.inside.words (λ k. sym (c.has_marks.ensures.0 c.if-has_marks.false k)))

use Rattle.std.proofs.Common.{sym, ◌∙◌}
use Rattle.heapless_c.specs.Reader.{by_standard}
use Rattle.heapless_c.proofs.reader.busconf_reader_bus.Goals as goal

pub returns-clause-state : goal.returns-clause-state
returns-clause-state c = λ list has. by_standard c.in-Some.standard (sym c.standard_of.ensures ∙ c.in-Some.is) (c.tell_bus.ensures.state list (c.kept.ensures list has))

use Rattle.std.proofs.Common.{refl}
use Rattle.std.specs.List.{slice_range}
use Rattle.trace_event.proofs.Chain.{between}
use Rattle.trace_event.proofs.words.name_between.Goals as goal

pub returns-clause-stands : goal.returns-clause-stands
returns-clause-stands c = between c.args.text.now c.args.start c.args.next (slice_range c.args.text.now c.args.start c.args.next) c.requires.start c.requires.next refl

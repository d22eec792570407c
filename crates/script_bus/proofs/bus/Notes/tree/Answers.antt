use Rattle.std.proofs.Common.{sym}
use Rattle.script_bus.specs.Running.{notes_now, reported}
use Rattle.script_bus.proofs.NamedTree.{named_tree}
use Rattle.script_bus.proofs.bus.Notes.tree.Goals as goal

pub returns-in-Some-clause-named : goal.returns-in-Some-clause-named
returns-in-Some-clause-named c =
    named_tree c.args.self.now.names c.args.node (notes_now c.args.self.now) (reported c.in-Some.tree) c.requires (sym c.in-Some.ensures)

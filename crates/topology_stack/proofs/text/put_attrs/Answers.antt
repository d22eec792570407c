use Rattle.std.proofs.Common.{rules, append_assoc}
use Rattle.topology_stack.specs.Text.{attrs_text, field}
use Rattle.topology_stack.proofs.text.put_attrs.Goals as goal

pub returns : goal.returns
unfolding attrs_text field
returns c = search (rules, append_assoc)

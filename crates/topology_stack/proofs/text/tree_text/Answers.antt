use Rattle.std.proofs.Common.{◌≡◌, ◌∙◌, refl}
use Rattle.topology_stack.specs.Tree.{walk}
use Rattle.topology_stack.specs.Far.{ends}
use Rattle.topology_stack.specs.Text.{lines_from}
use Rattle.topology_stack.proofs.Ends.{ends_are}
use Rattle.topology_stack.proofs.text.tree_text.Goals as goal

pub returns : goal.returns
returns c =
    let lines : c.put_lines.new.out.items ≡ lines_from 0 (walk c.args.tree.now) (ends c.args.tree.now) c.args.names.now =
    c.in_ok-put_lines.ensures ∙ rw (c.in_ok-out.ensures.items, c.nodes-2.ensures.value, c.parents.ensures.value, c.children.ensures.value, c.as_slice.ensures, ends_are c.args.tree.now) refl in
    c.in_ok-put_last_line.ensures ∙ rw (lines, c.len.ensures.value, c.elect.ensures.value) refl

use Rattle.std.proofs.Common.{append_assoc}
use Rattle.view_text.specs.Node.{title}
use Rattle.view_text.proofs.node.put_title.Goals as goal

pub returns : goal.returns
unfolding title
returns c =
    simp (c.in_ok-put_irm_mark.ensures, c.in_ok-put_root_mark.ensures, c.in_ok-put_field.ensures, c.from.ensures, append_assoc)

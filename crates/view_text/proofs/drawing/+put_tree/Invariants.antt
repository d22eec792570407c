use Rattle.std.proofs.Common.{◌≡◌}
use Rattle.view_text.proofs.Parts.{LinesFrom}
use Rattle.view_text.proofs.drawing.+put_tree.Given as goal

abbrev pub decreases-put_tree : goal.decreases-put_tree
decreases-put_tree l = l.id

abbrev pub invariant-loop-slot : goal.invariant-loop-slot
invariant-loop-slot l =
    LinesFrom l.tree l.fn.margin.items l.irm l.id l.slot l.fn.out.items l.out.items
    × (l.margin.items ≡ l.fn.margin.items)

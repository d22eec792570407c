use Rattle.std.proofs.Common.{ap}
use Rattle.std.specs.Option.{option_copied}
use Rattle.reset_list.proofs.OneDrawing.{was_drawn, was_other}
use Rattle.reset_list.proofs.shown.was_drawn.Goals as goal

pub returns-in_ok-text-in-Some-clause-same : goal.returns-in_ok-text-in-Some-clause-same
returns-in_ok-text-in-Some-clause-same c =
    was_drawn (option_copied c.args.before) c.in-Some.old.now c.in_ok-text-in-Some.text.items c.args.drawing.now c.same_text.result
    (ap option_copied c.in-Some.is) c.in_ok-text-in-Some.ensures (rw c.as_slice.ensures.value at c.same_text.ensures)

pub returns-in_ok-text-in-Some-clause-other : goal.returns-in_ok-text-in-Some-clause-other
returns-in_ok-text-in-Some-clause-other c =
    was_other (option_copied c.args.before) c.in-Some.old.now c.in_ok-text-in-Some.text.items c.args.drawing.now c.same_text.result
    (ap option_copied c.in-Some.is) c.in_ok-text-in-Some.ensures (rw c.as_slice.ensures.value at c.same_text.ensures)

use Rattle.std.proofs.Common.{refl}
use Rattle.reset_list.specs.Shown.{short_refused, short_heard}
use Rattle.reset_list.proofs.shown.show_short.Goals as goal

pub returns-in_ok-put_numbers-in-Ok : goal.returns-in_ok-put_numbers-in-Ok
returns-in_ok-put_numbers-in-Ok c =
    short_heard c.in-Ok.tree c.in-Ok.ensures.tree
    (rw (c.in_ok-put_numbers-in-Ok.ensures, c.in_ok-extend_from_slice-in-Ok.ensures.items, c.new-text.ensures.items) refl) refl

pub returns-in_ok-put_refused-in-Err-Fault : goal.returns-in_ok-put_refused-in-Err-Fault
returns-in_ok-put_refused-in-Err-Fault c =
    short_refused c.in-Err-Fault.fault (rw c.in-Err-Fault.field-0-is at c.in-Err-Fault.ensures.fault)
    (rw (← c.in-Err-Fault.fault-is, c.in_ok-put_refused-in-Err-Fault.ensures, c.new-text.ensures.items) refl) refl

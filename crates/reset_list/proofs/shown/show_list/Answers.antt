use Rattle.std.proofs.Common.{refl}
use Rattle.reset_list.specs.Shown.{is_refused, is_heard}
use Rattle.reset_list.proofs.shown.show_list.Goals as goal

pub returns-in_ok-text-in-Ok : goal.returns-in_ok-text-in-Ok
returns-in_ok-text-in-Ok c =
    is_heard c.in-Ok.tree c.in-Ok.ensures.tree c.in_ok-text-in-Ok.ensures refl

pub returns-in_ok-text-in-Err-Fault : goal.returns-in_ok-text-in-Err-Fault
returns-in_ok-text-in-Err-Fault c =
    is_refused c.in-Err-Fault.fault (rw c.in-Err-Fault.field-0-is at c.in-Err-Fault.ensures.fault)
    (rw (← c.in-Err-Fault.fault-is) c.in_ok-text-in-Err-Fault.ensures) refl

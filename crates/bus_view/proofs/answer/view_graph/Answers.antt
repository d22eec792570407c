use Rattle.std.proofs.Common.{refl}
use Rattle.bus_view.specs.Answer.{at_fault}
use Rattle.bus_view.proofs.answer.view_graph.Goals as goal

pub returns-in_ok-explained-in-Err-Fault : goal.returns-in_ok-explained-in-Err-Fault
returns-in_ok-explained-in-Err-Fault c =
    at_fault c.in-Err-Fault.fault refl (rw c.in-Err-Fault.field-0-is at c.in-Err-Fault.ensures.refused)
    c.in_ok-explained-in-Err-Fault.ensures

use Rattle.std.proofs.Common.{refl, ◌∙◌, ap}
use Rattle.quad_lanes.specs.Capture.{capture}
use Rattle.bus_view.specs.Answer.{has_list, has_none}
use Rattle.bus_view.proofs.answer.view_list.Goals as goal

pub returns-in_ok-capture_of-in-Ok : goal.returns-in_ok-capture_of-in-Ok
returns-in_ok-capture_of-in-Ok c =
    has_list c.in-Ok.list.items refl c.in-Ok.ensures.listed
    (c.in_ok-capture_of-in-Ok.ensures ∙ ap capture c.as_slice.ensures.value)

pub returns-in_ok-from_slice-in-Err-Fault : goal.returns-in_ok-from_slice-in-Err-Fault
returns-in_ok-from_slice-in-Err-Fault c =
    has_none c.in-Err-Fault.fault refl (rw c.in-Err-Fault.field-0-is at c.in-Err-Fault.ensures.refused)
    (c.in_ok-from_slice-in-Err-Fault.ensures.items ∙ c.as_bytes.ensures ∙ c.script_line.ensures)

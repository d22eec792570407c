use Rattle.std.proofs.Common.{◌≡◌, ℕ, List, ap, ◌∙◌}
use Rattle.std.specs.Prelude.{Err}
use Rattle.quad_lanes.specs.Capture.{capture}
use Rattle.script_run.specs.Listed.{IsListed}
use Rattle.script_c.specs.Answers.{HasCapture}
use Rattle.script_c.proofs.Stopped.{stopped, told_some}
use Rattle.script_c.proofs.captured.tell_list.Goals as goal

pub returns-in-Ok : goal.returns-in-Ok
returns-in-Ok c =
    told_some (λ text. text ≡ capture c.as_slice.result.now) (HasCapture c.args.bytes.now c.args.name.now) (λ f. IsListed c.args.bytes.now c.args.name.now (Err f)) _ _ _ _ _ _
    (λ text is. record {
      list = c.in-Ok.list.items;
      listed = c.in-Ok.ensures.listed;
      text_is = is ∙ ap capture c.as_slice.ensures.value;
    })
    c.tell_capture.ensures

pub returns-in-Err : goal.returns-in-Err
returns-in-Err c = stopped (HasCapture c.args.bytes.now c.args.name.now) (IsListed c.args.bytes.now c.args.name.now) c.in-Err.stop _ _ _ _ _ c.in-Err.ensures.refused c.tell_stop.ensures

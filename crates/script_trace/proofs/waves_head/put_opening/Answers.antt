use Rattle.std.proofs.Common.{append_assoc, refl}
use Rattle.script_trace.specs.waves.Head.{opening}
use Rattle.script_trace.proofs.waves_head.put_opening.Goals as goal

pub returns : goal.returns
unfolding opening
returns c =
    rw (c.in_ok-put_unit.ensures, c.in_ok-extend_from_slice.ensures.items, append_assoc) refl

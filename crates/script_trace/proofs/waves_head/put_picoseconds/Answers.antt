use Rattle.std.proofs.Common.{append_assoc, refl}
use Rattle.script_trace.specs.waves.Head.{picoseconds}
use Rattle.script_trace.proofs.waves_head.put_picoseconds.Goals as goal

pub returns : goal.returns
unfolding picoseconds
returns c =
    rw (c.in_ok-extend_from_slice.ensures.items, c.in_ok-put_numbered-2.ensures, c.in_ok-put_numbered.ensures, c.from.ensures, c.from-2.ensures, append_assoc, append_assoc) refl

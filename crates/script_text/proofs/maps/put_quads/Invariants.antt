use Rattle.std.proofs.Common.{◌≡◌, ◌++◌, drop}
use Rattle.script_text.specs.Maps.{quad_lines}
use Rattle.script_text.proofs.maps.put_quads.Given as goal

abbrev pub invariant-loop-quad : goal.invariant-loop-quad
invariant-loop-quad l = l.out.items ++ quad_lines (drop l.quad-index l.quads) ≡ l.initial.out.items ++ quad_lines l.quads

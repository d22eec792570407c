use Rattle.std.proofs.Common.{◌≡◌, ◌++◌, take}
use Rattle.self_identify.proofs.ticks.append.Given as goal

abbrev pub invariant-loop-quad : goal.invariant-loop-quad
invariant-loop-quad l = l.list.items ≡ l.initial.list.items ++ take l.quad-index l.quads

use Rattle.std.proofs.Common.{take}
use Rattle.topology_stack.specs.Reader.{StandsFor}
use Rattle.bus_cli.proofs.late.LateReader.judged.Given as goal

-- the reader was given the quadlets so far
abbrev pub invariant-loop-quad : goal.invariant-loop-quad
invariant-loop-quad l = StandsFor l.reader (take l.quad-index l.quads)

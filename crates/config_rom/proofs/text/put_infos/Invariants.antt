use Rattle.std.proofs.Common.{◌≡◌, ◌++◌, drop}
use Rattle.config_rom.specs.Text.{info_lines}
use Rattle.config_rom.proofs.text.put_infos.Given as goal

-- the lines so far, and then those of the quadlets that are left, are the lines of all
abbrev pub invariant-loop-quad : goal.invariant-loop-quad
invariant-loop-quad l = l.out.items ++ info_lines (drop l.quad-index l.quads) ≡ l.fn.out.items ++ info_lines l.quads

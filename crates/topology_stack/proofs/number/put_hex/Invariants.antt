use Rattle.std.proofs.Common.{◌≡◌, ◌++◌}
use Rattle.topology_stack.specs.Hex.{hex}
use Rattle.topology_stack.proofs.number.put_hex.Given as goal

-- the digits so far, and then those that are left, are all digits
abbrev pub invariant-loop-place : goal.invariant-loop-place
invariant-loop-place l = l.out.items ++ hex l.place l.n ≡ l.fn.out.items ++ hex l.digits l.n

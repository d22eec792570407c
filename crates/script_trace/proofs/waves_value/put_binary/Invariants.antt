use Rattle.std.proofs.Common.{◌≡◌, ◌++◌}
use Rattle.script_trace.specs.waves.Value.{binary}
use Rattle.script_trace.proofs.waves_value.put_binary.Given as goal

-- the digits so far, and then those that are left, are all digits
abbrev pub invariant-loop-place : goal.invariant-loop-place
invariant-loop-place l = l.out.items ++ binary l.place l.n ≡ l.fn.out.items ++ binary l.digits l.n

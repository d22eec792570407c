use Rattle.std.proofs.Common.{◌≡◌, ◌-◌, ◌*◌, ◌++◌, length, take}
use Rattle.script_trace.specs.waves.Value.{binary}
use Rattle.script_trace.proofs.waves_value.word_digits.Given as goal

-- the digits so far, and then those that are left, are all digits
abbrev pub invariant-loop-place : goal.invariant-loop-place
invariant-loop-place l = record {
  long : length l.text ≡ 32;
  digits : take (4 * l.place) l.text ++ binary (32 - 4 * l.place) l.n ≡ binary 32 l.n;
}

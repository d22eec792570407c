use Rattle.std.proofs.Common.{◌≡◌, ◌++◌, length}
use Rattle.capture_import.specs.Words.{hex_bytes}
use Rattle.capture_import.proofs.words.put_hex.Given as goal

-- the bytes so far, and then those of the rest, are the bytes of all
abbrev pub invariant-loop-rest : goal.invariant-loop-rest
invariant-loop-rest l =
    l.out.items ++ hex_bytes l.rest ≡ l.fn.out.items ++ hex_bytes l.digits

abbrev pub decreases-loop-rest : goal.decreases-loop-rest
decreases-loop-rest l = length l.rest

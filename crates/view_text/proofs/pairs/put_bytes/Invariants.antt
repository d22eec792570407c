use Rattle.std.proofs.Common.{◌≡◌, ◌++◌, drop}
use Rattle.view_text.specs.Pairs.{bytes_text}
use Rattle.view_text.proofs.pairs.put_bytes.Given as goal

-- the bytes so far, and then those of the rest, are all bytes
abbrev pub invariant-loop-byte : goal.invariant-loop-byte
invariant-loop-byte l = l.out.items ++ bytes_text (drop l.byte-index l.bytes) ≡ l.initial.out.items ++ bytes_text l.bytes

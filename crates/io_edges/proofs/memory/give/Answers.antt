use Rattle.std.proofs.Common.{◌≡◌, ℕ, ◌+◌, List, ◌++◌, length, take, drop, sym, arith}
use Rattle.std.proofs.Math.Seq.{take-append_seam}
use Rattle.std.proofs.lemmas.List.{take-append-drop, drop-drop, length-take}
use Rattle.std.proofs.lemmas.Grind.{common_steps}
use Rattle.io_edges.proofs.memory.give.Goals as goal

-- what is copied, and then the bytes behind it
copied : (bytes front back : List ℕ) (at count : ℕ) →
    front ≡ take count (drop at bytes) → length front ≡ count →
    drop at bytes ≡ take count (front ++ back) ++ drop (at + count) bytes
copied bytes front back at count is len =
    let kept : take count (front ++ back) ≡ front = rw (← len) (take-append_seam front back) in
    sym (rw (kept, is, ← drop-drop count at bytes) (take-append-drop count (drop at bytes)))

pub returns-clause-front : goal.returns-clause-front
returns-clause-front c = copied c.args.bytes.now c.copy_from_slice.new.self
    (drop c.min-count.result c.args.buf.now) c.args.at.now c.min-count.result
    (grind (arith, common_steps)) (grind (arith, common_steps, length-take))

use Rattle.std.proofs.Common.{◌≡◌, ℕ, ◌<◌, ◌≤◌, get_or, arith}
use Rattle.std.proofs.Math.ListN.{replicate}
use Rattle.std.proofs.lemmas.List.{get_or-replicate}
use Rattle.layer_tests.proofs.cables.longest_line.Goals as goal

two : ℕ
two = 2

two_each : (n i : ℕ) → i < n →
    (1 ≤ get_or (replicate n two) i 0) × (get_or (replicate n two) i 0 ≤ 16)
unfolding two
two_each n i h =
    let e : get_or (replicate n two) i 0 ≡ two = get_or-replicate n i two 0 h in
    (omega (arith, e), omega (arith, e))

pub new-requires-clause-counts : goal.new-requires-clause-counts
unfolding two
new-requires-clause-counts c = λ i h. two_each 63 i h

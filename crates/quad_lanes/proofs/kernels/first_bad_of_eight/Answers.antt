use Rattle.std.proofs.Common.{◌≤◌, ◌<◌, length, take, arith, lit≤, map}
use Rattle.std.specs.Simd.Lanes.{mask_l}
use Rattle.std.proofs.lemmas.Simd.{trailing_mask_l}
use Rattle.quad_lanes.specs.Pairs.{pairs, is_bad}
use Rattle.quad_lanes.proofs.Lanes.{length-pairs_16}
use Rattle.quad_lanes.proofs.kernels.first_bad_of_eight.Goals as goal

pub returns-else-bad-eq0 : goal.returns-else-bad-eq0
returns-else-bad-eq0 c =
    let eight : length (pairs (take 16 c.args.quads.now)) ≤ 64 = rw (length-pairs_16 _ c.requires) (lit≤ tt) in
    let some : 0 < mask_l (map is_bad (pairs (take 16 c.args.quads.now))) = grind (arith, c.bad_of_eight-bad.ensures) in
    rw c.bad_of_eight-bad.ensures (trailing_mask_l is_bad 64 _ eight some)

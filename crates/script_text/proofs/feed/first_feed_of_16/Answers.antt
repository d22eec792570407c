use Rattle.std.proofs.Common.{◌≤◌, ◌<◌, length, take, arith, lit≤, map}
use Rattle.std.specs.Simd.Lanes.{mask_l}
use Rattle.std.proofs.lemmas.List.{length-take-le}
use Rattle.std.proofs.lemmas.Simd.{trailing_mask_l}
use Rattle.script_text.specs.Summary.{is_feed}
use Rattle.script_text.proofs.feed.first_feed_of_16.Goals as goal

pub returns-else-feeds-eq0 : goal.returns-else-feeds-eq0
returns-else-feeds-eq0 c =
    let few : length (take 16 c.args.text.now) ≤ 64 = rw (length-take-le 16 _ c.requires) (lit≤ tt) in
    let some : 0 < mask_l (map is_feed (take 16 c.args.text.now)) = grind (arith, c.feeds_of_16-feeds.ensures) in
    rw c.feeds_of_16-feeds.ensures (trailing_mask_l is_feed 64 _ few some)

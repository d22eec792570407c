use Rattle.std.proofs.Common.{take, w8, nat_eq, lit≤}
use Rattle.std.proofs.lemmas.List.{length-take-le}
use Rattle.std.proofs.lemmas.Simd.{bitmask_splat}
use Rattle.script_text.proofs.feed.feeds_of_16.Goals as goal

pub returns : goal.returns
returns c =
    bitmask_splat w8 nat_eq (take 16 c.args.text.now) 16 10 (length-take-le 16 c.args.text.now c.requires) (lit≤ tt)

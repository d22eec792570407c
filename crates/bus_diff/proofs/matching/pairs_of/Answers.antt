use Rattle.std.proofs.Common.{sym, subst}
use Rattle.bus_diff.specs.Matching.{IsMatching}
use Rattle.bus_diff.proofs.Matched.{matching_none, matching_with}
use Rattle.bus_diff.proofs.matching.pairs_of.Goals as goal

pub loop-id-init : goal.loop-id-init
loop-id-init c =
    subst (IsMatching c.args.old.now c.args.new.now) (sym c.new-pairs.ensures.items) (matching_none c.args.old.now c.args.new.now)

pub loop-id-preserved : goal.loop-id-preserved
loop-id-preserved c =
    subst (IsMatching c.args.old.now c.args.new.now) (sym c.in_ok-put_pair.ensures)
    (matching_with c.args.old.now c.args.new.now c.loop-id.pairs.items _ c.loop-id.invariant)

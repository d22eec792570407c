use Rattle.std.proofs.Common.{◌∙◌, List, sym, ap, subst}
use Rattle.bus_diff.specs.declared.pair.Pair.{Pair}
use Rattle.bus_diff.specs.Matching.{IsMatching}
use Rattle.bus_diff.specs.Listed.{changes}
use Rattle.bus_diff.proofs.Reached.{matched_matching}
use Rattle.bus_diff.proofs.Walked.{has_cables, along_same}
use Rattle.bus_diff.proofs.comparing.compare_along.Goals as goal

pub returns-clause-matching : goal.returns-clause-matching
returns-clause-matching c =
    subst (IsMatching c.args.old.now c.args.new.now) (sym (c.in_ok-told.ensures.pairs ∙ c.in_ok-pairs.ensures)) (matched_matching c.args.old.now c.args.new.now)

pub returns-clause-same : goal.returns-clause-same
returns-clause-same c = λ same.
    let f = has_cables c.cables_are_of_the_tree.ensures.ends c.each_node_hangs_on_one_cable.ensures.one c.args.old.now c.len-len.ensures.valid in
    c.in_ok-told.ensures.list
    ∙ ap (λ (ps : List Pair). changes c.args.old.now c.args.new.now ps) (c.in_ok-told.ensures.pairs ∙ c.in_ok-pairs.ensures)
    ∙ along_same c.args.old.now c.args.new.now f same

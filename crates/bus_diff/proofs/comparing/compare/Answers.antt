use Rattle.std.proofs.Common.{◌≡◌, [], ◌∙◌, arith, List, length, sym, ap, subst}
use Rattle.topology_stack.specs.Tree.{walk}
use Rattle.bus_diff.specs.declared.pair.Pair.{Pair}
use Rattle.bus_diff.specs.Matching.{IsMatching}
use Rattle.bus_diff.specs.Listed.{changes}
use Rattle.bus_diff.proofs.Same.{same_matching, told_same}
use Rattle.bus_diff.proofs.comparing.compare.Goals as goal

pub returns-then-is_empty-clause-matching : goal.returns-then-is_empty-clause-matching
returns-then-is_empty-clause-matching c =
    subst (IsMatching c.args.old.now c.args.new.now) (sym (c.in_ok-told.ensures.pairs ∙ c.in_ok-alike.ensures))
    (same_matching c.args.old.now c.args.new.now (length (walk c.args.old.now)))

pub returns-clause-matching : goal.returns-clause-matching
returns-clause-matching c =
    subst (IsMatching c.args.old.now c.args.new.now) (sym c.in_ok-told-2.ensures.pairs) c.in_ok-pairs.ensures

pub returns-clause-alike : goal.returns-clause-alike
returns-clause-alike c = λ none.
    let pairs = c.in_ok-told.ensures.pairs ∙ c.in_ok-alike.ensures in
    let empty : c.in_ok-told.told.changes.items ≡ [] =
    c.in_ok-told.ensures.list ∙ ap (λ (ps : List Pair). changes c.args.old.now c.args.new.now ps) pairs ∙ none in
    absurd (grind (arith, empty, c.is_empty.ensures, c.if-is_empty.false))

pub returns-clause-same : goal.returns-clause-same
returns-clause-same c = λ same. returns-clause-alike c (told_same c.args.old.now c.args.new.now same)

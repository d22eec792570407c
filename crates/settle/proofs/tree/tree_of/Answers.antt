use Rattle.std.proofs.Common.{◌≡◌, true, All, sym, subst}
use Rattle.self_id.specs.Node.{FitBits}
use Rattle.settle.proofs.TreeShown.{tree-fits, fits-tree}
use Rattle.settle.proofs.tree.tree_of.Goals as goal
use Rattle.cable_world.proofs.Lemmas.{attrs-fit}

pub tree_shown_from-requires-clause-valid : goal.tree_shown_from-requires-clause-valid
tree_shown_from-requires-clause-valid g c =
    subst (All FitBits) (sym c.requires.attrs) (attrs-fit (g.W.WorldRun.world c.args.world.now) c.requires.formed)

pub returns-then-not-all_fit-clause-none : goal.returns-then-not-all_fit-clause-none
returns-then-not-all_fit-clause-none g c = λ root t h.
    let shown = rw (c.in-Some-2.is, c.cabling.ensures, c.requires.attrs) at c.in_ok-tree.ensures.shown in
    let tree = c.in-Some-2.tree in
    let fit : c.all_fit.result ≡ true =
    c.all_fit.ensures.1
    (tree-fits (g.W.WorldRun.world c.args.world.now) c.args.set c.in-Some.root root tree.list tree.order t shown c.in-Some.ensures.holds c.in-Some.ensures.top h) in
    absurd cc

pub returns-clause-tree : goal.returns-clause-tree
returns-clause-tree g c =
    let shown = rw (c.in-Some-2.is, c.cabling.ensures, c.requires.attrs) at c.in_ok-tree.ensures.shown in
    let tree = c.in-Some-2.tree in
    fits-tree (g.W.WorldRun.world c.args.world.now) c.args.set c.in-Some.root tree.list tree.order c.requires.no_loop shown c.in-Some.ensures.holds c.in-Some.ensures.top
    (c.all_fit.ensures.0 c.if-not-all_fit.false)

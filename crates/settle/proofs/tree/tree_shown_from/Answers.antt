use Rattle.std.proofs.Common.{◌≡◌, ◌∙◌, true, false, ap}
use Rattle.cabling.specs.Labels.{labels}
use Rattle.cabling.specs.Sees.{numbers}
use Rattle.settle.proofs.tree.tree_shown_from.Goals as goal

pub returns-in_default-clause-none : goal.returns-in_default-clause-none
returns-in_default-clause-none c = λ t seen.
    let k = c.in_default.ensures.core in
    let no : false ≡ true =
    (c.in_default.ensures.cyclic c.in_default.field-0.core k).1
    (c.trees_have_no_core.ensures.no_core c.args.root k.component c.in_default.field-0.core (labels c.args.attrs.now) t k.of_node k.is seen) in
    absurd cc

pub returns-in_ok-list-in-Ok-tree_from-clause-shown :
    goal.returns-in_ok-list-in-Ok-tree_from-clause-shown
returns-in_ok-list-in-Ok-tree_from-clause-shown c =
    let shown = c.in-Ok-tree_from in
    let o = c.in-Ok.ensures.walk (labels c.args.attrs.now) in
    record {
      tree = shown.tree;
      seen = shown.ensures.tree;
      emitted = c.in_ok-list-in-Ok-tree_from.ensures;
      walked = o.order ∙ ap (numbers c.args.cabling.now c.args.root)
          (c.trees_are_seen_once.ensures (labels c.args.attrs.now) c.args.root o.tree shown.tree o.seen shown.ensures.tree);
    }

pub returns-in-Err-Cyclic-clause-none : goal.returns-in-Err-Cyclic-clause-none
returns-in-Err-Cyclic-clause-none c = λ t seen.
    let k = rw c.in-Err-Cyclic.field-0-is at c.in-Err-Cyclic.ensures.core in
    k.1 (c.trees_have_no_core.ensures.no_core c.args.root k.0.component c.in-Err-Cyclic.field-0-0 (labels c.args.attrs.now) t k.0.of_node k.0.is seen)

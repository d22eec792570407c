use Rattle.std.proofs.Common.{◌∙◌, List, sym, subst, ap, arith}
use Rattle.topology_stack.proofs.Lemmas.{some_node}
use Rattle.bus_diff.specs.declared.pair.Pair.{Pair}
use Rattle.bus_diff.specs.declared.change.Change.{Change}
use Rattle.bus_diff.specs.Change.{AreChanges}
use Rattle.bus_diff.specs.Listed.{changes}
use Rattle.bus_diff.proofs.Parts.{are_changes}
use Rattle.bus_diff.proofs.comparing.differing.Goals as goal

pub returns-clause-exact : goal.returns-clause-exact
returns-clause-exact c =
    let t = c.args.old.now in
    let u = c.args.new.now in
    let list = c.in_ok-changes.ensures ∙ ap (λ (ps : List Pair). changes t u ps) c.deref.ensures.value in
    subst (λ (xs : List Change). AreChanges t u c.args.pairs.items xs) (sym list)
    (are_changes t u c.args.pairs.items (omega (arith, some_node t)) (omega (arith, some_node u)))

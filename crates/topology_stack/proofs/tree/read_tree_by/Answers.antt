use Rattle.std.proofs.Common.{Ok, ap}
use Rattle.std.proofs.lemmas.Result.{err_from_is_err_and}
use Rattle.topology_stack.specs.Tree.{Tree}
use Rattle.topology_stack.specs.codings.Code.{tree_of}
use Rattle.topology_stack.proofs.Answered.{only_stop, exact_stop, is_found, is_walk, is_only, no_exact}
use Rattle.topology_stack.proofs.Linking.{stored}
use Rattle.topology_stack.proofs.tree.read_tree_by.Goals as goal

pub returns-in_err-nodes-clause-only : goal.returns-in_err-nodes-clause-only
returns-in_err-nodes-clause-only c =
    let p = err_from_is_err_and c.from_residual.result c.from_residual.ensures.1 in
    rw (p.1, p.2) (λ t bus is. only_stop c.args.standard c.args.quads.now c.in_err-nodes.field-0.0 t t c.in_err-nodes.ensures.refused bus is)

pub returns-in_err-nodes-clause-exact : goal.returns-in_err-nodes-clause-exact
returns-in_err-nodes-clause-exact c =
    let p = err_from_is_err_and c.from_residual.result c.from_residual.ensures.1 in
    rw (p.1, p.2) (λ f is. exact_stop c.args.standard Tree c.args.quads.now c.in_err-nodes.field-0.0 f c.in_err-nodes.ensures.refused is)

pub invariant_of-result : goal.invariant_of-result
invariant_of-result c =
    let bus = (is_found c.args.standard c.args.quads.now c.in_ok-nodes.nodes.items c.in_ok-nodes.ensures.found).0.bus in
    let walk = is_walk c.args.standard c.args.quads.now c.in_ok-nodes.nodes.items c.in_ok-nodes.ensures.found in
    stored (tree_of c.in_ok-nodes.nodes.items) c.in_ok-nodes.nodes.items _ bus walk c.in_ok-nodes.ensures.linked.1

pub returns-clause-found : goal.returns-clause-found
returns-clause-found c = is_found c.args.standard c.args.quads.now c.in_ok-nodes.nodes.items c.in_ok-nodes.ensures.found

pub returns-clause-only : goal.returns-clause-only
returns-clause-only c = λ t bus is. ap (λ x. Ok x) (is_only c.args.standard c.args.quads.now c.in_ok-nodes.nodes.items c.in_ok-nodes.ensures.found t bus is)

pub returns-clause-exact : goal.returns-clause-exact
returns-clause-exact c = λ f is. absurd (no_exact c.args.standard c.args.quads.now c.in_ok-nodes.nodes.items c.in_ok-nodes.ensures.found f is)

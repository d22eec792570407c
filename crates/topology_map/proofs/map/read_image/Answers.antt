use Rattle.std.proofs.Common.{Err, ap}
use Rattle.std.proofs.lemmas.Result.{err_from_is_err_and}
use Rattle.topology_map.proofs.Parts.{no_fault, one_fault, parts_are}
use Rattle.topology_map.proofs.map.read_image.Goals as goal

pub returns-in_err-nodes-clause-only : goal.returns-in_err-nodes-clause-only
returns-in_err-nodes-clause-only c = λ generation nodes list h.
    absurd (no_fault c.args.quads.now nodes c.in_err-nodes.field-0.0 (parts_are generation nodes list c.args.quads.now h).whole c.in_err-nodes.ensures)

pub returns-in_err-nodes-clause-exact : goal.returns-in_err-nodes-clause-exact
returns-in_err-nodes-clause-exact c = λ f h.
    let p = err_from_is_err_and c.from_residual.result c.from_residual.ensures.1 in
    rw (p.1, p.2) (ap (λ g. Err g) (one_fault c.args.quads.now c.in_err-nodes.field-0.0 f c.in_err-nodes.ensures h))

pub returns-clause-exact : goal.returns-clause-exact
returns-clause-exact c = λ f h.
    absurd (no_fault c.args.quads.now c.in_ok-nodes.nodes f c.in_ok-nodes.ensures h)

pub returns-in_err-extend_from_slice-clause-exact : goal.returns-in_err-extend_from_slice-clause-exact
returns-in_err-extend_from_slice-clause-exact c = λ f h.
    absurd (no_fault c.args.quads.now c.in_ok-nodes.nodes f c.in_ok-nodes.ensures h)

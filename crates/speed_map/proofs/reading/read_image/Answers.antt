use Rattle.std.proofs.Common.{Err, ap, arith, ◌∙◌}
use Rattle.std.proofs.lemmas.Result.{err_from_is_err_and}
use Rattle.quad_lanes.specs.Pairs.{bytes_of}
use Rattle.speed_map.proofs.ReadBack.{behind_two, is_image, parts_are, no_fault, one_fault}
use Rattle.speed_map.proofs.reading.read_image.Goals as goal

pub returns-in_err-check-clause-only : goal.returns-in_err-check-clause-only
returns-in_err-check-clause-only c = λ generation rows fit h.
    absurd (no_fault c.args.quads.now c.in_err-check.field-0.0 (parts_are generation rows c.args.quads.now fit h).whole c.in_err-check.ensures)

pub returns-in_err-check-clause-exact : goal.returns-in_err-check-clause-exact
returns-in_err-check-clause-exact c = λ f h.
    let p = err_from_is_err_and c.from_residual.result c.from_residual.ensures.1 in
    rw (p.1, p.2) (ap (λ g. Err g) (one_fault c.args.quads.now c.in_err-check.field-0.0 f c.in_err-check.ensures h))

pub returns-clause-found : goal.returns-clause-found
returns-clause-found c =
    is_image c.args.quads.now c.in_ok-rows.rows.items c.in_ok-check.ensures (λ i. omega (arith, c.type_inv.quads i)) (c.in_ok-rows.ensures ∙ ap bytes_of (behind_two c.args.quads.now))

pub returns-clause-only : goal.returns-clause-only
returns-clause-only c = λ generation rows fit h.
    let parts = parts_are generation rows c.args.quads.now fit h in
    (parts.generation_is, c.in_ok-rows.ensures ∙ ap bytes_of (behind_two c.args.quads.now) ∙ parts.rows_are)

pub returns-clause-exact : goal.returns-clause-exact
returns-clause-exact c = λ f h. absurd (no_fault c.args.quads.now f c.in_ok-check.ensures h)

pub returns-in_err-rows-clause-exact : goal.returns-in_err-rows-clause-exact
returns-in_err-rows-clause-exact c = λ f h. absurd (no_fault c.args.quads.now f c.in_ok-check.ensures h)

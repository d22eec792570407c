use Rattle.std.proofs.Common.{◌≡◌, drop, rules, false}
use Rattle.std.proofs.lemmas.Result.{err_from_is_err_and}
use Rattle.self_id.specs.codings.Reading.{node3}
use Rattle.self_id.proofs.Again.{stop_first}
use Rattle.self_id.proofs.Quads.{shown}
use Rattle.self_id.proofs.Sound.{form3}
use Rattle.self_id.proofs.Whole.{zero_ok, zero_err, zero_fits, read3, gives, size3}
use Rattle.self_id.proofs.group.take_group.Goals as goal

-- ---- packet zero

pub returns-in_err-zero_quad-clause-read : goal.returns-in_err-zero_quad-clause-read
returns-in_err-zero_quad-clause-read c =
    let p = err_from_is_err_and c.from_residual.result c.from_residual.ensures.1 in
    rw (p.1, p.2) (stop_first c.args.standard c.args.at c.args.wanted (drop c.args.at c.args.quads.now) c.in_err-zero_quad.field-0.0 (zero_err c.args.at c.args.wanted (drop c.args.at c.args.quads.now) c.in_err-zero_quad.field-0.0 c.in_err-zero_quad.ensures.err))

pub whole_of_three-requires : goal.whole_of_three-requires
whole_of_three-requires c =
    let z = c.zero_part-zero.result in
    let taken = zero_ok c.args.at c.args.wanted (drop c.args.at c.args.quads.now) z (shown _ _ _ c.zero_part-zero.ensures c.in_ok-zero_quad.ensures.ok) in
    form3 z (zero_fits c.args.at c.args.wanted (drop c.args.at c.args.quads.now) z taken)

pub returns-clause-read : goal.returns-clause-read
returns-clause-read c =
    let z = c.zero_part-zero.result in
    let taken = zero_ok c.args.at c.args.wanted (drop c.args.at c.args.quads.now) z (shown _ _ _ c.zero_part-zero.ensures c.in_ok-zero_quad.ensures.ok) in
    let last : c.zero_part-zero.result.more ≡ false = search rules in
    gives c.args.standard c.args.at c.args.wanted 1 (drop c.args.at c.args.quads.now) (node3 z) c.whole_of_three.new.node c.whole_of_three.result (size3 z c.args.wanted)
    (read3 c.args.standard c.args.at c.args.wanted c.args.quads.now z taken last) c.whole_of_three.ensures.whole

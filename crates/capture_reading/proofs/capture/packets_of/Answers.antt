use Rattle.std.proofs.Common.{◌∙◌, ℕ, List, ap, sym, arith}
use Rattle.std.proofs.lemmas.Result.{err_from_is_err_and}
use Rattle.quad_lanes.specs.Pairs.{firsts, first_bad_pair}
use Rattle.quad_lanes.proofs.Lemmas.{all_bytes}
use Rattle.capture_reading.proofs.Reading.{is_capture, is_pair_fault}
use Rattle.capture_reading.proofs.capture.packets_of.Goals as goal

pub returns-in_err-pairs-clause-fault : goal.returns-in_err-pairs-clause-fault
returns-in_err-pairs-clause-fault c = λ standard.
    let p = err_from_is_err_and c.from_residual.result c.from_residual.ensures.1 in
    rw (p.1, p.2) (is_pair_fault (List ℕ) standard c.args.bytes.now c.in_err-pairs.field-0.0 c.in_err-pairs.ensures.cut)

pub returns-clause-packets : goal.returns-clause-packets
returns-clause-packets c =
    let fit = all_bytes c.args.bytes.now (λ i. omega (arith, c.type_inv.bytes i)) in
    let shown = c.as_slice-quads.ensures ∙ c.in_ok-pairs.ensures.quads in
    let good = ap (λ (quads : List ℕ). first_bad_pair quads) (sym shown) ∙ sym c.in_default.ensures in
    is_capture c.args.bytes.now c.in_ok-firsts.field-0 fit
    (c.in_ok-firsts.ensures.quads ∙ ap (λ (quads : List ℕ). firsts quads) shown)
    (c.good_pairs_are_a_capture.ensures c.args.bytes.now fit c.in_ok-pairs.ensures.whole good)

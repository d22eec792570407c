use Rattle.std.proofs.Common.{◌≡◌, sym, subst, arith}
use Rattle.std.proofs.lemmas.Result.{err_from_is_err_and}
use Rattle.config_rom.specs.codings.Marks.{Taken}
use Rattle.config_rom.proofs.Reached.{take_more, first_fault_at, past_end, reached_marked}
use Rattle.config_rom.proofs.reach.reach.Goals as goal

pub returns-in_err-take_place-clause-err : goal.returns-in_err-take_place-clause-err
returns-in_err-take_place-clause-err c =
    let p = err_from_is_err_and c.from_residual.result c.from_residual.ensures.1 in
    let e = c.in_err-take_place.ensures.err in
    rw (p.1, p.2) (first_fault_at c.args.quads.now c.args.root c.loop-at.at c.loop-at.marks e.0 c.in_err-take_place.field-0.0 c.requires.place c.loop-at-test.true c.loop-at.invariant e.1 e.2)

pub loop-at-preserved : goal.loop-at-preserved
loop-at-preserved c = take_more c.args.quads.now c.args.root c.loop-at.at c.loop-at.marks c.take_place.new.marks c.loop-at-test.true c.in_ok-take_place.ensures.ok c.loop-at.invariant

pub returns-in-Some-clause-err : goal.returns-in-Some-clause-err
returns-in-Some-clause-err c =
    let done : c.loop-at.at ≡ 256 = omega (arith, c.loop-at-test.false, c.loop-at.auto.at-end) in
    past_end c.args.quads.now c.args.root c.in-Some.at c.loop-at.marks c.requires.few (subst (λ n. Taken c.args.quads.now c.args.root n c.loop-at.marks) done c.loop-at.invariant) (sym c.in-Some.ensures)

pub returns-in-None-clause-reached : goal.returns-in-None-clause-reached
returns-in-None-clause-reached c = λ k p r.
    let done : c.loop-at.at ≡ 256 = omega (arith, c.loop-at-test.false, c.loop-at.auto.at-end) in
    reached_marked c.args.quads.now c.args.root c.loop-at.marks k p (subst (λ n. Taken c.args.quads.now c.args.root n c.loop-at.marks) done c.loop-at.invariant) (sym c.in-None.ensures) r

pub returns-in-None-clause-faultless : goal.returns-in-None-clause-faultless
returns-in-None-clause-faultless c = λ k p r f fault.
    let done : c.loop-at.at ≡ 256 = omega (arith, c.loop-at-test.false, c.loop-at.auto.at-end) in
    let all = subst (λ n. Taken c.args.quads.now c.args.root n c.loop-at.marks) done c.loop-at.invariant in
    let marked = reached_marked c.args.quads.now c.args.root c.loop-at.marks k p all (sym c.in-None.ensures) r in
    all.faultless k p marked.0 marked.1 f fault

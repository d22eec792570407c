use Rattle.std.proofs.Common.{ℕ, ◌+◌, ◌-◌, ◌*◌, ◌%◌, subst, sym, arith}
use Rattle.std.specs.Int.RustNames.{bit_and, bit_or, bit_xor}
use Rattle.flawed_capture.specs.Other.{IsOther}
use Rattle.flawed_capture.specs.declared.flaw.Flaw.{Flaw}
use Rattle.flawed_capture.proofs.Bits.{turned_from, turned_below, turned_above, last_set, parents_set, children_set, bare}
use Rattle.flawed_capture.proofs.change.other_quad.Goals as goal

pub returns-in-NotSelfId-clause-other : goal.returns-in-NotSelfId-clause-other
returns-in-NotSelfId-clause-other c =
    subst (λ (f : Flaw). IsOther f c.args.standard c.args.quad (bit_xor c.args.quad ((c.args.word % 3 + 1) * 1073741824))) (sym c.in-NotSelfId.is)
    (turned_from 30 c.args.quad ((c.args.word % 3 + 1) * 1073741824) (omega arith))

pub returns-in-WrongId-clause-other : goal.returns-in-WrongId-clause-other
returns-in-WrongId-clause-other c =
    let x : ℕ = (c.args.word % 63 + 1) * 16777216 in
    subst (λ (f : Flaw). IsOther f c.args.standard c.args.quad (bit_xor c.args.quad x)) (sym c.in-WrongId.is) (
      turned_below 30 c.args.quad x (omega arith),
      turned_from 24 c.args.quad x (omega arith),
      turned_above 24 c.args.quad x (omega arith),
    )

pub returns-in-BadOrder-clause-other : goal.returns-in-BadOrder-clause-other
returns-in-BadOrder-clause-other c =
    subst (λ (f : Flaw). IsOther f c.args.standard c.args.quad (bit_xor c.args.quad 8388608)) (sym c.in-BadOrder.is) (
      turned_below 24 c.args.quad 8388608 (omega arith),
      turned_from 23 c.args.quad 8388608 (omega arith),
    )

pub returns-in-Cut-clause-other : goal.returns-in-Cut-clause-other
returns-in-Cut-clause-other c =
    subst (λ (f : Flaw). IsOther f c.args.standard c.args.quad (bit_or c.args.quad 1)) (sym c.in-Cut.is) (last_set c.args.quad)

pub returns-in-TwoParents-clause-other : goal.returns-in-TwoParents-clause-other
returns-in-TwoParents-clause-other c =
    let quad = c.args.quad in
    let fields = c.port_fields-fields.result in
    subst (λ (f : Flaw). IsOther f c.args.standard quad (bit_or (bit_and quad (4294967295 - fields)) (bit_and 2863311530 fields))) (sym c.in-TwoParents.is)
    (λ zero. parents_set quad fields (omega arith) (c.port_fields-fields.ensures.zero zero))

pub returns-in-TooFewChildren-clause-other : goal.returns-in-TooFewChildren-clause-other
returns-in-TooFewChildren-clause-other c =
    let quad = c.args.quad in
    let fields = c.port_fields-fields.result in
    subst (λ (f : Flaw). IsOther f c.args.standard quad (bit_or quad fields)) (sym c.in-TooFewChildren.is)
    (λ zero. children_set quad fields (c.port_fields-fields.ensures.zero zero))

pub returns-in-TreesLeft-clause-other : goal.returns-in-TreesLeft-clause-other
returns-in-TreesLeft-clause-other c =
    let quad = c.args.quad in
    let fields = c.port_fields-fields.result in
    subst (λ (f : Flaw). IsOther f c.args.standard quad (bit_or (bit_and quad (4294967295 - fields)) (bit_and 1431655765 fields))) (sym c.in-TreesLeft.is)
    (bare c.args.standard quad fields (omega arith) c.port_fields-fields.ensures.zero c.port_fields-fields.ensures.further)

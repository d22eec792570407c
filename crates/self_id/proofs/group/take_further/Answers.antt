use Rattle.std.proofs.Common.{◌≡◌, ◌+◌, drop, refl, arith, rules, true, false}
use Rattle.std.proofs.lemmas.Result.{err_from_is_err_and}
use Rattle.self_id.specs.declared.standard.Standard.TheVariants.{Ieee1995, Ieee2000}
use Rattle.self_id.specs.codings.Reading.{node11, node16, node19, node27}
use Rattle.self_id.proofs.Quads.{shown}
use Rattle.self_id.proofs.Whole.{zero_ok, further_err, taken_fits, two_taken, three_taken, four_taken, two_forms, three_forms, four_forms, read11, read_three, read27, stopped_second, stopped_third, stopped_fourth, gives, size11, size_three, size27}
use Rattle.self_id.proofs.group.take_further.Goals as goal

-- ---- packet n = 0

pub returns-in_err-further_quad-clause-read : goal.returns-in_err-further_quad-clause-read
returns-in_err-further_quad-clause-read c =
    let z = c.args.zero.now in
    let taken = zero_ok c.args.at c.args.wanted (drop c.args.at c.args.quads.now) z c.requires.zero in
    let more : c.args.zero.now.more ≡ true = c.requires.more in
    let p = err_from_is_err_and c.from_residual.result c.from_residual.ensures.1 in
    rw (p.1, p.2)
    (stopped_second c.args.standard c.args.at c.args.wanted c.args.quads.now z c.in_err-further_quad.field-0.0 taken more
    (further_err (c.args.at + 1) c.args.wanted 0 (drop (c.args.at + 1) c.args.quads.now) c.in_err-further_quad.field-0.0 c.in_err-further_quad.ensures.err))

pub carried_of_eight-kept_a-requires : goal.carried_of_eight-kept_a-requires
carried_of_eight-kept_a-requires c = (taken_fits (c.args.at + 1) c.args.wanted 0 c.args.quads.now c.further_part-first.result (shown _ _ _ c.further_part-first.ensures c.in_ok-further_quad.ensures.ok)).0

pub whole-requires : goal.whole-requires
whole-requires c =
    let z = c.args.zero.now in
    let a = c.further_part-first.result in
    let more : c.args.zero.now.more ≡ true = c.requires.more in
    let two = two_taken c.args.at c.args.wanted c.args.quads.now z a c.requires.zero more (shown _ _ _ c.further_part-first.ensures c.in_ok-further_quad.ensures.ok) in
    rw (c.push_fields.ensures, c.first_ports-ports.ensures, c.carried_of_eight-kept_a.ensures.value) (two_forms c.args.at c.args.wanted c.args.quads.now z a two)

pub returns-then-not-first-clause-read : goal.returns-then-not-first-clause-read
returns-then-not-first-clause-read c =
    let z = c.args.zero.now in
    let a = c.further_part-first.result in
    let more : c.args.zero.now.more ≡ true = c.requires.more in
    let last : c.further_part-first.result.more ≡ false = search rules in
    let two = two_taken c.args.at c.args.wanted c.args.quads.now z a c.requires.zero more (shown _ _ _ c.further_part-first.ensures c.in_ok-further_quad.ensures.ok) in
    let w = rw (c.push_fields.ensures, c.first_ports-ports.ensures, c.carried_of_eight-kept_a.ensures.value) at c.whole.ensures.whole in
    gives c.args.standard c.args.at c.args.wanted 2 (drop c.args.at c.args.quads.now) (node11 z a) c.whole.new.node c.whole.result (size11 z a c.args.wanted)
    (read11 c.args.standard c.args.at c.args.wanted c.args.quads.now z a two last) w

-- ---- packet n = 1

pub further_quad-requires-2 : goal.further_quad-requires-2
further_quad-requires-2 c = omega (arith, (taken_fits (c.args.at + 1) c.args.wanted 0 c.args.quads.now c.further_part-first.result (shown _ _ _ c.further_part-first.ensures c.in_ok-further_quad.ensures.ok)).1)

pub returns-in_err-further_quad-2-clause-read : goal.returns-in_err-further_quad-2-clause-read
returns-in_err-further_quad-2-clause-read c =
    let z = c.args.zero.now in
    let a = c.further_part-first.result in
    let more : c.args.zero.now.more ≡ true = c.requires.more in
    let more_a : c.further_part-first.result.more ≡ true = search rules in
    let two = two_taken c.args.at c.args.wanted c.args.quads.now z a c.requires.zero more (shown _ _ _ c.further_part-first.ensures c.in_ok-further_quad.ensures.ok) in
    let p = err_from_is_err_and c.from_residual-in_err-further_quad-2.result c.from_residual-in_err-further_quad-2.ensures.1 in
    rw (p.1, p.2)
    (stopped_third c.args.standard c.args.at c.args.wanted c.args.quads.now z a c.in_err-further_quad-2.field-0.0 two more_a
    (further_err (c.args.at + 2) c.args.wanted 1 (drop (c.args.at + 2) c.args.quads.now) c.in_err-further_quad-2.field-0.0 c.in_err-further_quad-2.ensures.err))

pub carried_of_five-kept_b-requires : goal.carried_of_five-kept_b-requires
carried_of_five-kept_b-requires c = (taken_fits (c.args.at + 2) c.args.wanted 1 c.args.quads.now c.further_part-second.result (shown _ _ _ c.further_part-second.ensures c.in_ok-further_quad-2.ensures.ok)).0

pub whole-requires-in-Ieee2000 : goal.whole-requires-in-Ieee2000
whole-requires-in-Ieee2000 c =
    let z = c.args.zero.now in
    let a = c.further_part-first.result in
    let b = c.further_part-second.result in
    let more : c.args.zero.now.more ≡ true = c.requires.more in
    let more_a : c.further_part-first.result.more ≡ true = search rules in
    let two = two_taken c.args.at c.args.wanted c.args.quads.now z a c.requires.zero more (shown _ _ _ c.further_part-first.ensures c.in_ok-further_quad.ensures.ok) in
    let three = three_taken c.args.at c.args.wanted c.args.quads.now z a b two more_a (shown _ _ _ c.further_part-second.ensures c.in_ok-further_quad-2.ensures.ok) in
    rw (c.push_fields-in-Ieee2000.ensures, c.push_fields.ensures, c.first_ports-ports.ensures, c.carried_of_eight-kept_a.ensures.value, c.carried_of_five-kept_b.ensures) (three_forms Ieee2000 c.args.at c.args.wanted c.args.quads.now z a b three)

pub returns-in-Ieee2000-clause-read : goal.returns-in-Ieee2000-clause-read
returns-in-Ieee2000-clause-read c =
    let z = c.args.zero.now in
    let a = c.further_part-first.result in
    let b = c.further_part-second.result in
    let more : c.args.zero.now.more ≡ true = c.requires.more in
    let more_a : c.further_part-first.result.more ≡ true = search rules in
    let two = two_taken c.args.at c.args.wanted c.args.quads.now z a c.requires.zero more (shown _ _ _ c.further_part-first.ensures c.in_ok-further_quad.ensures.ok) in
    let three = three_taken c.args.at c.args.wanted c.args.quads.now z a b two more_a (shown _ _ _ c.further_part-second.ensures c.in_ok-further_quad-2.ensures.ok) in
    let w = rw (c.push_fields-in-Ieee2000.ensures, c.push_fields.ensures, c.first_ports-ports.ensures, c.carried_of_eight-kept_a.ensures.value, c.carried_of_five-kept_b.ensures) at c.whole-in-Ieee2000.ensures.whole in
    rw c.in-Ieee2000.is
    (gives Ieee2000 c.args.at c.args.wanted 3 (drop c.args.at c.args.quads.now) (node16 z a b) c.whole-in-Ieee2000.new.node c.whole-in-Ieee2000.result (size_three Ieee2000 z a b c.args.wanted)
    (read_three Ieee2000 c.args.at c.args.wanted c.args.quads.now z a b three refl) w)

pub carried_of_eight-requires : goal.carried_of_eight-requires
carried_of_eight-requires c = (taken_fits (c.args.at + 2) c.args.wanted 1 c.args.quads.now c.further_part-second.result (shown _ _ _ c.further_part-second.ensures c.in_ok-further_quad-2.ensures.ok)).0

pub whole-requires-then-not-second : goal.whole-requires-then-not-second
whole-requires-then-not-second c =
    let z = c.args.zero.now in
    let a = c.further_part-first.result in
    let b = c.further_part-second.result in
    let more : c.args.zero.now.more ≡ true = c.requires.more in
    let more_a : c.further_part-first.result.more ≡ true = search rules in
    let two = two_taken c.args.at c.args.wanted c.args.quads.now z a c.requires.zero more (shown _ _ _ c.further_part-first.ensures c.in_ok-further_quad.ensures.ok) in
    let three = three_taken c.args.at c.args.wanted c.args.quads.now z a b two more_a (shown _ _ _ c.further_part-second.ensures c.in_ok-further_quad-2.ensures.ok) in
    rw (c.push_fields-in-Ieee1995.ensures, c.push_fields.ensures, c.first_ports-ports.ensures, c.carried_of_eight-kept_a.ensures.value, c.from-kept_b.ensures, c.carried_of_eight.ensures.value) (three_forms Ieee1995 c.args.at c.args.wanted c.args.quads.now z a b three)

pub returns-then-not-second-clause-read : goal.returns-then-not-second-clause-read
returns-then-not-second-clause-read c =
    let z = c.args.zero.now in
    let a = c.further_part-first.result in
    let b = c.further_part-second.result in
    let more : c.args.zero.now.more ≡ true = c.requires.more in
    let more_a : c.further_part-first.result.more ≡ true = search rules in
    let two = two_taken c.args.at c.args.wanted c.args.quads.now z a c.requires.zero more (shown _ _ _ c.further_part-first.ensures c.in_ok-further_quad.ensures.ok) in
    let three = three_taken c.args.at c.args.wanted c.args.quads.now z a b two more_a (shown _ _ _ c.further_part-second.ensures c.in_ok-further_quad-2.ensures.ok) in
    let last : c.further_part-second.result.more ≡ false = search rules in
    let w = rw (c.push_fields-in-Ieee1995.ensures, c.push_fields.ensures, c.first_ports-ports.ensures, c.carried_of_eight-kept_a.ensures.value, c.from-kept_b.ensures, c.carried_of_eight.ensures.value) at c.whole-then-not-second.ensures.whole in
    rw c.in-Ieee1995.is
    (gives Ieee1995 c.args.at c.args.wanted 3 (drop c.args.at c.args.quads.now) (node19 z a b) c.whole-then-not-second.new.node c.whole-then-not-second.result (size_three Ieee1995 z a b c.args.wanted)
    (read_three Ieee1995 c.args.at c.args.wanted c.args.quads.now z a b three last) w)

-- ---- packet n = 2

pub further_quad-requires-in-Ieee1995 : goal.further_quad-requires-in-Ieee1995
further_quad-requires-in-Ieee1995 c = omega (arith, (taken_fits (c.args.at + 2) c.args.wanted 1 c.args.quads.now c.further_part-second.result (shown _ _ _ c.further_part-second.ensures c.in_ok-further_quad-2.ensures.ok)).1)

pub returns-in_err-further_quad-in-Ieee1995-clause-read : goal.returns-in_err-further_quad-in-Ieee1995-clause-read
returns-in_err-further_quad-in-Ieee1995-clause-read c =
    let z = c.args.zero.now in
    let a = c.further_part-first.result in
    let b = c.further_part-second.result in
    let more : c.args.zero.now.more ≡ true = c.requires.more in
    let more_a : c.further_part-first.result.more ≡ true = search rules in
    let two = two_taken c.args.at c.args.wanted c.args.quads.now z a c.requires.zero more (shown _ _ _ c.further_part-first.ensures c.in_ok-further_quad.ensures.ok) in
    let three = three_taken c.args.at c.args.wanted c.args.quads.now z a b two more_a (shown _ _ _ c.further_part-second.ensures c.in_ok-further_quad-2.ensures.ok) in
    let more_b : c.further_part-second.result.more ≡ true = search rules in
    let p = err_from_is_err_and c.from_residual-in_err-further_quad-in-Ieee1995.result c.from_residual-in_err-further_quad-in-Ieee1995.ensures.1 in
    rw (p.1, p.2, c.in-Ieee1995.is)
    (stopped_fourth c.args.at c.args.wanted c.args.quads.now z a b c.in_err-further_quad-in-Ieee1995.field-0.0 three more_b
    (further_err (c.args.at + 3) c.args.wanted 2 (drop (c.args.at + 3) c.args.quads.now) c.in_err-further_quad-in-Ieee1995.field-0.0 c.in_err-further_quad-in-Ieee1995.ensures.err))

pub carried_of_last-requires : goal.carried_of_last-requires
carried_of_last-requires c = (taken_fits (c.args.at + 3) c.args.wanted 2 c.args.quads.now c.further_part-third.result (shown _ _ _ c.further_part-third.ensures c.in_ok-further_quad-in-Ieee1995.ensures.ok)).0

pub whole-requires-in-Ieee1995 : goal.whole-requires-in-Ieee1995
whole-requires-in-Ieee1995 c =
    let z = c.args.zero.now in
    let a = c.further_part-first.result in
    let b = c.further_part-second.result in
    let more : c.args.zero.now.more ≡ true = c.requires.more in
    let more_a : c.further_part-first.result.more ≡ true = search rules in
    let two = two_taken c.args.at c.args.wanted c.args.quads.now z a c.requires.zero more (shown _ _ _ c.further_part-first.ensures c.in_ok-further_quad.ensures.ok) in
    let three = three_taken c.args.at c.args.wanted c.args.quads.now z a b two more_a (shown _ _ _ c.further_part-second.ensures c.in_ok-further_quad-2.ensures.ok) in
    let third = c.further_part-third.result in
    let more_b : c.further_part-second.result.more ≡ true = search rules in
    let four = four_taken c.args.at c.args.wanted c.args.quads.now z a b third three more_b (shown _ _ _ c.further_part-third.ensures c.in_ok-further_quad-in-Ieee1995.ensures.ok) in
    rw (c.push_fields-in-Ieee1995-2.ensures, c.push_fields-in-Ieee1995.ensures, c.push_fields.ensures, c.first_ports-ports.ensures, c.carried_of_eight-kept_a.ensures.value, c.from-kept_b.ensures, c.carried_of_eight.ensures.value, c.from.ensures, c.carried_of_last.ensures.value)
    (four_forms c.args.at c.args.wanted c.args.quads.now z a b third four)

pub returns-in_ok-further_quad-in-Ieee1995-clause-read : goal.returns-in_ok-further_quad-in-Ieee1995-clause-read
returns-in_ok-further_quad-in-Ieee1995-clause-read c =
    let z = c.args.zero.now in
    let a = c.further_part-first.result in
    let b = c.further_part-second.result in
    let more : c.args.zero.now.more ≡ true = c.requires.more in
    let more_a : c.further_part-first.result.more ≡ true = search rules in
    let two = two_taken c.args.at c.args.wanted c.args.quads.now z a c.requires.zero more (shown _ _ _ c.further_part-first.ensures c.in_ok-further_quad.ensures.ok) in
    let three = three_taken c.args.at c.args.wanted c.args.quads.now z a b two more_a (shown _ _ _ c.further_part-second.ensures c.in_ok-further_quad-2.ensures.ok) in
    let third = c.further_part-third.result in
    let more_b : c.further_part-second.result.more ≡ true = search rules in
    let four = four_taken c.args.at c.args.wanted c.args.quads.now z a b third three more_b (shown _ _ _ c.further_part-third.ensures c.in_ok-further_quad-in-Ieee1995.ensures.ok) in
    let w = rw (c.push_fields-in-Ieee1995-2.ensures, c.push_fields-in-Ieee1995.ensures, c.push_fields.ensures, c.first_ports-ports.ensures, c.carried_of_eight-kept_a.ensures.value, c.from-kept_b.ensures, c.carried_of_eight.ensures.value, c.from.ensures, c.carried_of_last.ensures.value) at c.whole-in-Ieee1995.ensures.whole in
    rw c.in-Ieee1995.is
    (gives Ieee1995 c.args.at c.args.wanted 4 (drop c.args.at c.args.quads.now) (node27 z a b third) c.whole-in-Ieee1995.new.node c.whole-in-Ieee1995.result (size27 z a b third c.args.wanted)
    (read27 c.args.at c.args.wanted c.args.quads.now z a b third four) w)

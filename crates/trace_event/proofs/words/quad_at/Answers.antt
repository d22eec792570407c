use Rattle.std.proofs.Common.{◌≡◌, ℕ, ◌+◌, ◌-◌, ◌*◌, ◌/◌, ◌%◌, ◌^◌, ◌++◌, refl, subst, arith}
use Rattle.topology_stack.specs.Hex.{hex}
use Rattle.trace_event.specs.Stands.{Stands}
use Rattle.trace_event.proofs.Digits.{first_digit, more_digits, one_more, room}
use Rattle.trace_event.proofs.words.quad_at.Goals as goal

pub overflow_mul-value : goal.overflow_mul-value
overflow_mul-value c = omega (arith, (room c.loop-count.count c.loop-count.value 0 c.loop-count-test.true c.loop-count.invariant.value (omega arith)).0)

pub overflow_add-value : goal.overflow_add-value
overflow_add-value c = omega (arith, (room c.loop-count.count c.loop-count.value c.in_ok-value.field-0 c.loop-count-test.true c.loop-count.invariant.value c.in_ok-value.ensures.few).0)

-- one of the digits that are left is there
pub returns-in_err-value-clause-only : goal.returns-in_err-value-clause-only
returns-in_err-value-clause-only c = λ q w end whole.
    let left = 8 - c.loop-count.count in
    let digit = first_digit left q w (omega arith) (c.loop-count.invariant.only q w end whole) in
    absurd (let stop = c.in_err-value.ensures.only (q / 2 ^ (4 * (left - 1)) % 16) (hex (left - 1) q ++ w) end (omega arith) digit in cc)

pub loop-count-init : goal.loop-count-init
loop-count-init c = record {
  few = omega arith;
  value = omega arith;
  found = record { is = refl; next_is = omega arith; inside = c.if-at-text.false };
  only = λ q w end whole. whole;
}

pub loop-count-preserved : goal.loop-count-preserved
loop-count-preserved c = record {
  few = omega arith;
  value = (room c.loop-count.count c.loop-count.value c.in_ok-value.field-0 c.loop-count-test.true c.loop-count.invariant.value c.in_ok-value.ensures.few).1;
  found = one_more c.loop-count.count c.loop-count.value c.in_ok-value.field-0 c.loop-count.invariant.found c.in_ok-value.ensures.found c.in_ok-value.ensures.few;
  only = λ q w end whole.
      let fewer : 8 - (c.loop-count.count + 1) ≡ 8 - c.loop-count.count - 1 = omega arith in
      rw fewer (more_digits (8 - c.loop-count.count) q w (omega arith) (c.loop-count.invariant.only q w end whole));
}

pub returns : goal.returns
returns c =
    let all : c.loop-count.count ≡ 8 = omega arith in
    record {
      found = subst (λ (k : ℕ). Stands c.args.text.now c.args.at (hex k c.loop-count.value) c.loop-count.next) all c.loop-count.invariant.found;
      only = λ q w end whole.
          subst (λ (k : ℕ). Stands c.args.text.now c.loop-count.next (hex (8 - k) q ++ w) end) all (c.loop-count.invariant.only q w end whole);
    }

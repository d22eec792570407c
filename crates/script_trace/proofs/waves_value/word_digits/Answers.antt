use Rattle.std.proofs.Common.{◌≡◌, ◌+◌, ◌-◌, ◌*◌, ◌++◌, ◌∙◌, ◌≤◌, List, ℕ, length, take, ap, refl, arith}
use Rattle.std.proofs.lemmas.Slice.{take-put_mid}
use Rattle.script_trace.proofs.waves.Digits.{next-four, all-four, written-length}
use Rattle.script_trace.proofs.waves_value.word_digits.Goals as goal

pub loop-place-init : goal.loop-place-init
loop-place-init c = record {
  long = refl;
  digits = refl;
}

pub loop-place-preserved : goal.loop-place-preserved
loop-place-preserved c =
    let p = c.loop-place.place in
    let text = c.loop-place.text in
    let four = c.copy_from_slice.new.self in
    let room : 4 * p + (4 * p + 4 - 4 * p) ≤ length text = omega (arith, c.loop-place.invariant.long) in
    let whole : length four ≡ 4 * p + 4 - 4 * p = omega arith in
    record {
      long = written-length (4 * p) (4 * p + 4 - 4 * p) text four room whole ∙ c.loop-place.invariant.long;
      digits =
          next-four p c.args.n (take (4 * p) text) _ c.four_digits.result.now _ (omega arith) c.four_digits.ensures
          (take-put_mid (4 * p) (4 * p + 4 - 4 * p) text four (4 * (p + 1)) (omega arith) (omega arith)
          ∙ ap (λ (l : List ℕ). take (4 * p) text ++ l) c.copy_from_slice.ensures.after)
          c.loop-place.invariant.digits;
    }

pub returns : goal.returns
returns c =
    let all : c.loop-place.place ≡ 8 = omega arith in
    all-four c.loop-place.place c.args.n c.loop-place.text all c.loop-place.invariant.long c.loop-place.invariant.digits

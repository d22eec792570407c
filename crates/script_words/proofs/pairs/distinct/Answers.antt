use Rattle.std.proofs.Common.{◌≡◌, ◌∙◌, ◌+◌, take, drop, sym, arith}
use Rattle.script_words.specs.Pairs.{distinct}
use Rattle.script_words.proofs.Distinct.{distinct_more, distinct_stop, distinct_end}
use Rattle.script_words.proofs.pairs.distinct.Goals as goal

pub returns-then-is_taken-clause-value : goal.returns-then-is_taken-clause-value
returns-then-is_taken-clause-value c =
    let test = sym (rw c.as_bytes.ensures at c.is_taken.ensures) ∙ c.if-is_taken.true in
    let stop : distinct (take c.loop-n.n c.args.words.now) (drop c.loop-n.n c.args.words.now) ≡ 0 =
    distinct_stop c.args.words.now c.loop-n.n c.index-words-n.result c.loop-n-test.true c.index-words-n.is test in
    omega (arith, stop, c.loop-n.invariant.value)

pub loop-n-preserved : goal.loop-n-preserved
loop-n-preserved c =
    let test = sym (rw c.as_bytes.ensures at c.is_taken.ensures) ∙ c.if-is_taken.false in
    let more : distinct (take c.loop-n.n c.args.words.now) (drop c.loop-n.n c.args.words.now)
    ≡ 2 + distinct (take (c.loop-n.n + 2) c.args.words.now) (drop (c.loop-n.n + 2) c.args.words.now) =
    distinct_more c.args.words.now c.loop-n.n c.index-words-n.result c.loop-n-test.true c.index-words-n.is test in
    record {
      few = omega arith;
      value = omega (arith, more, c.loop-n.invariant.value);
    }

pub returns-clause-value : goal.returns-clause-value
returns-clause-value c =
    let end : distinct (take c.loop-n.n c.args.words.now) (drop c.loop-n.n c.args.words.now) ≡ 0 =
    distinct_end (take c.loop-n.n c.args.words.now) c.args.words.now c.loop-n.n c.loop-n-test.false in
    omega (arith, end, c.loop-n.invariant.value)

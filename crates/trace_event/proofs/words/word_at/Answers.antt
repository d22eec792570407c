use Rattle.std.proofs.Common.{rules, ◌+◌, length, arith}
use Rattle.trace_event.proofs.Chain.{behind, between, reads}
use Rattle.trace_event.proofs.Ends.{apart}
use Rattle.trace_event.proofs.words.word_at.Goals as goal

pub returns-clause-found : goal.returns-clause-found
returns-clause-found c = between c.args.text.now c.args.at (c.args.at + length c.args.word.now) c.args.word.now (omega arith) (omega (arith, c.if-at-text.false, c.if-text-at.false)) (search rules)

pub returns-clause-only : goal.returns-clause-only
returns-clause-only c = λ w next whole. behind c.args.word.now w whole

pub returns-then-ne-clause-only : goal.returns-then-ne-clause-only
returns-then-ne-clause-only c = λ w next whole.
    apart _ c.args.word.now c.ne.result c.ne.ensures c.if-ne.true (reads c.args.word.now w whole)

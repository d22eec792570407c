use Rattle.std.proofs.Common.{◌∙◌, sym}
use Rattle.script_lines.proofs.Uniform.{first_and_others, read_declared, read_others}
use Rattle.script_lines.proofs.line.read_words.Goals as goal

pub returns-else-is-clause-value : goal.returns-else-is-clause-value
returns-else-is-clause-value c =
    c.read_fixed.ensures.value
    ∙ read_others c.args.times c.args.words.now c.verb-item.result _
    (first_and_others c.args.words.now c.verb-item.result c.in-len1-up.len_at_least c.verb-item.is)
    (sym c.is.ensures.value ∙ c.if-is.false)

pub returns-then-is-clause-value : goal.returns-then-is-clause-value
returns-then-is-clause-value c =
    c.node.ensures.value
    ∙ read_declared c.args.times c.args.words.now c.verb-item.result _
    (first_and_others c.args.words.now c.verb-item.result c.in-len1-up.len_at_least c.verb-item.is)
    (sym c.is.ensures.value ∙ c.if-is.true)

pub returns-else-is-clause-ranged : goal.returns-else-is-clause-ranged
returns-else-is-clause-ranged c = c.read_fixed.ensures.ranged c.args.times

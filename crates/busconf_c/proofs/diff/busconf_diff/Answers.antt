use Rattle.std.proofs.Common.{ℕ, subst, ◌∙◌}
use Rattle.c_records.specs.declared.records.FaultRecord.{FaultRecord}
use Rattle.busconf_c.specs.Answers.{IsStop}
use Rattle.busconf_c.specs.Changes.{IsMarked, both, no_old, no_new}
use Rattle.busconf_c.proofs.diff.busconf_diff.Goals as goal

pub returns-in-Err-clause-answer : goal.returns-in-Err-clause-answer
returns-in-Err-clause-answer c = no_old c.in-Err.ensures.none c.in-Err.ensures.marked

pub returns-in-Ok-numbered_tree-clause-answer : goal.returns-in-Ok-numbered_tree-clause-answer
returns-in-Ok-numbered_tree-clause-answer c =
    both c.in-Ok.tree c.in-Ok-numbered_tree.tree c.in-Ok.ensures.found.0 c.in-Ok-numbered_tree.ensures.found.0
    (c.in-Ok-numbered_tree.ensures.found.1 ∙ c.in-Ok.ensures.found.1)
    (c.in-Ok-numbered_tree.ensures.kept ∙ c.in-Ok.ensures.kept) c.tell_difference.ensures.answer

pub returns-clause-answer : goal.returns-clause-answer
returns-clause-answer c =
    no_new c.in-Ok.tree c.in-Ok.ensures.found.0
    (subst (λ (f : FaultRecord). IsStop c.args.year c.args.new.now f c.numbered_tree-2.new.fault c.in-Err-numbered_tree.status) c.in-Ok.ensures.found.1 c.in-Err-numbered_tree.ensures.none)
    (subst (λ (l : ℕ). IsMarked 2 l c.numbered_tree-2.new.list c.in-Err-numbered_tree.status) c.in-Ok.ensures.kept c.in-Err-numbered_tree.ensures.marked)

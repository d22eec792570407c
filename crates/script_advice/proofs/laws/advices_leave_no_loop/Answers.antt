use Rattle.script_advice.proofs.NoLoop.{no-loop, all-without-loop}
use Rattle.script_advice.proofs.laws.advices_leave_no_loop.Goals as goal

pub returns-clause-report : goal.returns-clause-report
returns-clause-report c = no-loop c.one_tree.ensures c.acts_keep.ensures.nodes

pub returns-clause-text : goal.returns-clause-text
returns-clause-text c = all-without-loop c.one_tree.ensures c.acts_keep.ensures.nodes c.reports_are_read_back.ensures.lists c.reports_are_outcomes.ensures
    c.outcomes_are_one.ensures

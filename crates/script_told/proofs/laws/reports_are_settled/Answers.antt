use Rattle.script_told.proofs.told.EachReport.{each-report}
use Rattle.script_told.proofs.laws.reports_are_settled.Goals as goal

pub returns : goal.returns
returns c = each-report c.one_tree.ensures c.acts_keep.ensures.nodes c.reports_are_read_back.ensures.lists c.reports_are_outcomes.ensures
    c.outcomes_are_one.ensures

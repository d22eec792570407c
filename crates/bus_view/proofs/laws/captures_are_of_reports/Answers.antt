use Rattle.bus_view.proofs.Fitting.{lists-fit}
use Rattle.bus_view.proofs.Captured.{of-reports}
use Rattle.bus_view.proofs.laws.captures_are_of_reports.Goals as goal

pub returns-clause-fit : goal.returns-clause-fit
returns-clause-fit c = lists-fit

pub returns-clause-read : goal.returns-clause-read
returns-clause-read c =
    of-reports record {
      trees = c.one_reading.ensures.tree;
      apart = c.one_reading.ensures.apart;
      one = c.one_tree.ensures;
      keeps = c.acts_keep.ensures.nodes;
      managed = c.reported_trees_are_managed.ensures;
      reports = c.reports_are_settled.ensures;
      fit = lists-fit;
    }

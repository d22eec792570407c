use Rattle.script_run.specs.Viewed.{is_picture, are_lines}
use Rattle.script_run.proofs.OneView.{one-picture, some-picture, one-reporting, some-reporting, told-texts, told-fault}
use Rattle.script_run.proofs.laws.scripts_have_one_view.Goals as goal

pub returns : goal.returns
returns c = record {
  picture = one-picture c.scripts_tell_one_thing.ensures.run c.reports_have_one_view.ensures.graph;
  picture_told = told-texts is_picture;
  picture_fault = told-fault is_picture;
  picture_some = some-picture c.one_tree.ensures c.acts_keep.ensures.nodes c.reports_are_read_back.ensures.lists c.reports_have_views.ensures.graphs;
  reporting = one-reporting c.scripts_tell_one_thing.ensures.run c.reports_have_one_view.ensures.line;
  reporting_told = told-texts are_lines;
  reporting_fault = told-fault are_lines;
  reporting_some = some-reporting c.one_tree.ensures c.acts_keep.ensures.nodes c.reports_are_read_back.ensures.lists c.reports_have_views.ensures.lines c.reports_are_settled.ensures;
}

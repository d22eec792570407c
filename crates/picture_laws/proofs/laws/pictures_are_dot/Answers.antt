use Rattle.picture_laws.proofs.Dots.{pictures-are-dot}
use Rattle.picture_laws.proofs.laws.pictures_are_dot.Goals as goal

pub returns : goal.returns
returns c =
    pictures-are-dot c.one_tree.ensures c.acts_keep.ensures.nodes c.reports_are_read_back.ensures.lists c.names_are_tested.ensures
    c.report_graphs_are_dot.ensures

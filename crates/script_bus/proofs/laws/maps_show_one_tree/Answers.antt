use Rattle.script_bus.proofs.EachMaps.{each-maps}
use Rattle.script_bus.proofs.laws.maps_show_one_tree.Goals as goal

pub returns : goal.returns
returns c =
    each-maps c.one_tree.ensures c.acts_keep.ensures.nodes c.trees_stay.ensures.turns c.components_exist.ensures
    c.forced_roots_settle.ensures.names

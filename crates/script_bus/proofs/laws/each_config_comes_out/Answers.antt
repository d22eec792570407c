use Rattle.script_bus.proofs.EachConfig.{each-config}
use Rattle.script_bus.proofs.laws.each_config_comes_out.Goals as goal

pub returns : goal.returns
returns c =
    each-config c.one_tree.ensures c.acts_keep.ensures.nodes c.trees_stay.ensures.turns c.components_exist.ensures
    c.forced_roots_settle.ensures.names c.forced_roots_settle.ensures.config c.forced_roots_settle.ensures.packets

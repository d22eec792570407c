use Rattle.self_id.proofs.Public.{found, only, refused, exact}
use Rattle.self_id.proofs.group.read_group_into.Goals as goal

pub returns-clause-found : goal.returns-clause-found
returns-clause-found c =
    found c.args.standard c.args.at c.args.wanted c.args.quads.now c.take_group.new.node c.take_group.result
    c.requires.inside c.take_group.ensures.read

pub returns-clause-only : goal.returns-clause-only
returns-clause-only c =
    only c.args.standard c.args.at c.args.wanted c.args.quads.now c.take_group.new.node c.take_group.result
    c.requires.id c.take_group.ensures.read

pub returns-clause-refused : goal.returns-clause-refused
returns-clause-refused c =
    refused c.args.standard c.args.at c.args.wanted c.args.quads.now c.take_group.new.node
    c.take_group.result c.requires.inside c.take_group.ensures.read

pub returns-clause-exact : goal.returns-clause-exact
returns-clause-exact c =
    exact c.args.standard c.args.at c.args.wanted c.args.quads.now c.take_group.new.node
    c.take_group.result c.requires.id c.take_group.ensures.read

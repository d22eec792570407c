-- A seen tree is a bus tree: it is no larger than a bus, since the nodes of a component are few.
use Rattle.std.proofs.Common.{ℕ, ◌≤◌, length}
use Rattle.topology_stack.specs.Tree.{Label}
use Rattle.topology_stack.proofs.Lemmas.{one_tree}
use Rattle.self_id.specs.declared.standard.Standard.TheVariants.{Ieee2000}
use Rattle.cabling.specs.Existence.{HasComponent}
use Rattle.cabling.specs.Labels.{labels}
use Rattle.cabling.specs.Sees.{numbers}
use Rattle.cabling.proofs.Lemmas.{component_exists, bus_seen, labels_fit, tree_few, seen_loopless}
use Rattle.world_laws.specs.SeenTrees.{SeenTreesAreBusTrees, SeenListsHaveOneTree}

pub seen-bus : SeenTreesAreBusTrees
seen-bus c attrs root t h =
    let label : ℕ → Label = labels attrs in
    let comp : HasComponent c root = component_exists c root h.cabling h.there in
    let few : length (numbers c root t) ≤ 63 =
    tree_few c label root comp.set t (seen_loopless c label root comp.set t h.cabling h.there comp.small comp.is h.seen) h.seen in
    bus_seen c label root t h.cabling (labels_fit c attrs h.each h.fit) h.there h.seen few

pub one-list : SeenListsHaveOneTree
one-list c attrs root t other h bus same = one_tree Ieee2000 other t bus (seen-bus c attrs root t h) same

-- Whatever tree a cabling shows is a bus tree, and its list is the list of that tree alone.
use Rattle.std.specs.Prelude.{◌≡◌, ◌<◌, All, List, None, length}
use Rattle.self_id.specs.declared.node.Attrs.{Attrs}
use Rattle.self_id.specs.declared.standard.Standard.TheVariants.{Ieee2000}
use Rattle.self_id.specs.Node.{FitBits}
use Rattle.topology_stack.specs.Tree.{Tree, IsBusTreeOf, emits}
use Rattle.cabling.specs.Wiring.{Wiring, NodeNumber, IsCabling}
use Rattle.cabling.specs.Labels.{labels}
use Rattle.cabling.specs.Sees.{Sees}

-- a cabling, whose nodes have these attributes, shows this tree from a root
pub record IsSeenTree (c : Wiring) (attrs : List Attrs) (root : NodeNumber) (t : Tree) : Type 0
  where
    pub cabling : IsCabling c
    pub there : root < length c
    pub each : length attrs ≡ length c
    pub fit : All FitBits attrs
    pub seen : Sees c (labels attrs) root None t

-- ---- laws

abbrev pub SeenTreesAreBusTrees : Type 0
SeenTreesAreBusTrees =
    (c : Wiring) (attrs : List Attrs) (root : NodeNumber) (t : Tree) → IsSeenTree c attrs root t →
    IsBusTreeOf Ieee2000 t

-- its list is read as this tree, whatever bus tree emits the list
abbrev pub SeenListsHaveOneTree : Type 0
SeenListsHaveOneTree =
    (c : Wiring) (attrs : List Attrs) (root : NodeNumber) (t other : Tree) →
    IsSeenTree c attrs root t → IsBusTreeOf Ieee2000 other → emits other ≡ emits t → other ≡ t

-- What nodes make of equal lists.
use Rattle.std.specs.Prelude.{◌≡◌, ℕ, List}
use Rattle.self_id.specs.declared.standard.Standard.{Standard}
use Rattle.topology_stack.specs.Tree.{Tree, IsBusTreeOf, emits}
use Rattle.topology_stack.specs.Elect.{elected}
use Rattle.topology_map.specs.Sealed.{IsSealed}
use Rattle.topology_map.specs.Map.{IsMap}
use Rattle.speed_map.specs.Rows.{AreRows}

-- the trees of one standard that are read from equal lists have the same elected node
abbrev pub ElectOneManager : Type 0
ElectOneManager =
    (standard : Standard) (t u : Tree) → IsBusTreeOf standard t → IsBusTreeOf standard u →
    emits t ≡ emits u → elected t ≡ elected u

-- and the same rows of speeds
abbrev pub HaveOneSpeedMap : Type 0
HaveOneSpeedMap =
    (standard : Standard) (t u : Tree) (rows other : List ℕ) → IsBusTreeOf standard t →
    IsBusTreeOf standard u → emits t ≡ emits u → AreRows t rows → AreRows u other →
    rows ≡ other

-- a list has one image of its topology map in a generation
abbrev pub HaveOneTopologyMap : Type 0
HaveOneTopologyMap =
    (generation nodes others : ℕ) (list image other : List ℕ) →
    IsMap generation nodes list image → IsMap generation others list other → image ≡ other

-- and a body of quadlets, as that of a speed map, one image
abbrev pub BodiesAreSealedOnce : Type 0
BodiesAreSealedOnce =
    (body image other : List ℕ) → IsSealed body image → IsSealed body other → image ≡ other

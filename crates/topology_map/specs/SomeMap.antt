-- Which CRCs and images there are.
use Rattle.std.specs.Prelude.{ℕ, List, length}
use Rattle.topology_stack.specs.Tree.{Tree, walk, emits, IsBusTree}
use Rattle.topology_map.specs.Crc.{IsCrc}
use Rattle.topology_map.specs.Sealed.{IsSealed}
use Rattle.topology_map.specs.Map.{IsMap}

pub record HasCrc (quads : List ℕ) : Type 0 where
  pub crc : ℕ
  pub is : IsCrc quads crc

-- all quadlets have a CRC
abbrev pub CrcsExist : Type 0
CrcsExist = (quads : List ℕ) → HasCrc quads

pub record HasImage (body : List ℕ) : Type 0 where
  pub quads : List ℕ
  pub is : IsSealed body quads

-- each body has an image
abbrev pub ImagesExist : Type 0
ImagesExist = (body : List ℕ) → HasImage body

pub record HasTopologyMap (generation : ℕ) (t : Tree) : Type 0 where
  pub quads : List ℕ
  pub is : IsMap generation (length (walk t)) (emits t) quads

-- each bus tree has a topology map in each generation
abbrev pub TopologyMapsExist : Type 0
TopologyMapsExist = (generation : ℕ) (t : Tree) → IsBusTree t → HasTopologyMap generation t

-- A node that is read into the place behind others.
use Rattle.std.specs.Prelude.{◌≡◌, ℕ, List, [], ◌∷◌, ◌++◌, length, drop}
use Rattle.self_id.specs.declared.fault.GroupFault.{GroupFault}
use Rattle.self_id.specs.declared.standard.Standard.{Standard}
use Rattle.self_id.specs.Node.{Node}
use Rattle.self_id.specs.Group.{StandsAt}
use Rattle.self_id.specs.Refused.{GroupRefused}
use Rattle.topology_stack.specs.declared.fault.TreeFault.{TreeFault}
use Rattle.topology_stack.specs.declared.fault.TreeFault.TheVariants.{Group}

-- the node whose group stands there by a standard, with the next ID, stands behind the others; its
-- group ends at a place
pub record IsReadBehind (standard : Standard) (quads : List ℕ) (at : ℕ) (old new : List Node)
    (place : ℕ) : Type 0 where
  pub node : Node
  pub stands : StandsAt standard quads at (length old) node place
  pub behind : new ≡ old ++ node ∷ []

-- the fault is that of the group which should stand there
pub record IsGroupFault (standard : Standard) (quads : List ℕ) (at : ℕ) (nodes : List Node)
    (fault : TreeFault) : Type 0 where
  pub of_group : GroupFault
  pub is : fault ≡ Group of_group
  pub refused : GroupRefused standard at (length nodes) (drop at quads) of_group

-- Two nodes that are each other's candidate parents: one pair of a component at most, and no root
-- beside it.
use Rattle.std.specs.Prelude.{◌≡◌, ◌⊎◌}
use Rattle.cabling.specs.declared.cable.End.{End}
use Rattle.cabling.specs.NodeSet.{Holds}
use Rattle.cabling.specs.Component.{IsComponent}
use Rattle.cable_world.specs.World.{CableWorld, NodeNumber, NodeSet}
use Rattle.convergence.specs.Drawers.{AreMutual}
use Rattle.convergence.specs.Kept.{OnceOverAndContested}
use Rattle.convergence.specs.Roots.{IsRoot}
use Rattle.convergence.specs.Turns.{turns_to_over, HoldsAfter}

-- two pairs of a component are one, perhaps the other way round
abbrev pub RivalsAreOne : CableWorld → Type 0
RivalsAreOne w =
    (node : NodeNumber) (set : NodeSet) (a b c d : End) → IsComponent w.cabling node set →
    Holds set a.node → Holds set c.node → AreMutual w a b → AreMutual w c d →
    ((c ≡ a) × (d ≡ b)) ⊎ ((c ≡ b) × (d ≡ a))

-- a component with such a pair has no root
abbrev pub RivalsHaveNoRoot : CableWorld → Type 0
RivalsHaveNoRoot w =
    (node : NodeNumber) (set : NodeSet) (a b : End) (root : NodeNumber) →
    IsComponent w.cabling node set → Holds set a.node → Holds set root → AreMutual w a b →
    IsRoot w root → ⊥

pub record RivalsAreAlone (w : CableWorld) : Type 0 where
  pub one : RivalsAreOne w
  pub no_root : RivalsHaveNoRoot w

-- ---- laws

-- once resets are over
abbrev pub RivalsStayAlone : Type 0
RivalsStayAlone = OnceOverAndContested RivalsAreAlone

-- so after n d quiet turns
abbrev pub RivalsAreAloneByThen : Type 0
RivalsAreAloneByThen = HoldsAfter turns_to_over RivalsAreAlone

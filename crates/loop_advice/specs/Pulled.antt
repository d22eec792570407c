-- What is left when cables are pulled.
use Rattle.std.specs.Prelude.{◌≡◌, ◌↔◌, ◌≤◌, ◌<◌, ◌^◌, Some, List, length, map}
use Rattle.cabling.specs.declared.cable.End.{End}
use Rattle.cabling.specs.declared.cable.Cable.{Cable}
use Rattle.cabling.specs.Wiring.{Wiring, NodeNumber, far}
use Rattle.cabling.specs.NodeSet.{Nodes, IsEmpty}
use Rattle.cabling.specs.Component.{IsComponent}
use Rattle.cabling.specs.Looped.{IsCore}
use Rattle.loop_advice.specs.Cables.{Lists}
use Rattle.loop_advice.specs.Certificate.{IsCertificate}

-- of the cables those in the list, and no others, were taken out
pub record ArePulled (old new : Wiring) (cables : List Cable) : Type 0 where
  pub ports : map length new ≡ map length old
  pub left :
      (a b : End) →
      far new a ≡ Some b ↔ ((far old a ≡ Some b) × (Lists cables (record { a = a; b = b }) → ⊥))

-- where the pulls of a valid advice are taken out, the component has the same nodes
abbrev pub PullsKeepTheComponent : Wiring → Wiring → Type 0
PullsKeepTheComponent old new =
    (node : NodeNumber) (pulls kept : List Cable) (component : Nodes) →
    IsCertificate old node pulls kept → ArePulled old new pulls → IsComponent old node component →
    IsComponent new node component

-- where the pulls of a valid advice are taken out, the component has no core
abbrev pub PullsLeaveNoCore : Wiring → Wiring → Type 0
PullsLeaveNoCore old new =
    (node : NodeNumber) (pulls kept : List Cable) (component core : Nodes) →
    component < 2 ^ 63 → IsCertificate old node pulls kept → ArePulled old new pulls →
    IsComponent old node component → IsCore new component core →
    IsEmpty core

-- where any cables are taken out and no core is left, they are at least as many as the pulls of a
-- valid advice
abbrev pub NoFewerPullsDo : Wiring → Wiring → Type 0
NoFewerPullsDo old new =
    (node : NodeNumber) (pulls kept others : List Cable) (component core : Nodes) →
    component < 2 ^ 63 → IsCertificate old node pulls kept → ArePulled old new others →
    IsComponent old node component → IsCore new component core → IsEmpty core →
    length pulls ≤ length others

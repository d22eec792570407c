-- An act resets nodes, and leaves all components alone in which it resets none.
use Rattle.std.specs.Prelude.{◌≡◌, ◌⊎◌, ◌↔◌, ◌==◌, ◌||◌, Bool, false, Option, None, Some, IsSomeAnd, IsTrue}
use Rattle.topology_stack.specs.Tree.{Tree}
use Rattle.cabling.specs.declared.cable.End.{End}
use Rattle.cabling.specs.Wiring.{far}
use Rattle.cabling.specs.NodeSet.{Holds}
use Rattle.cabling.specs.Component.{IsComponent}
use Rattle.port_state.specs.declared.signal.Phase.TheVariants.{ResetStart}
use Rattle.cable_world.specs.declared.act.Act.{Act}
use Rattle.cable_world.specs.declared.act.Act.TheVariants.{Plug, Pull, Reset, Config}
use Rattle.cable_world.specs.World.{CableWorld, NodeNumber, NodeSet}
use Rattle.cable_world.specs.Act.{Acted}
use Rattle.cable_world.specs.Run.{ComesOfPowerOn}
use Rattle.cable_world.specs.Outcome.{AtView, IsTree}
use Rattle.world_laws.specs.ByNumber.{NodeStands, InActs}

-- whether there is an end, and it is at this node
abbrev pub is_end_at : NodeNumber → Option End → Bool
is_end_at k None = false
is_end_at k (Some b) = k == b.node

-- an act resets this node: an end of the cable that is plugged or pulled, or the node that is named
abbrev pub Touches : Act → CableWorld → NodeNumber → Type 0
Touches (Plug a b) w k = (k ≡ a.node) ⊎ (k ≡ b.node)
Touches (Pull a) w k = (k ≡ a.node) ⊎ IsSomeAnd (far w.cabling a) (λ b. k ≡ b.node)
Touches (Reset node) w k = k ≡ node
Touches (Config from root_id force gap) w k = k ≡ from

-- whether it does
abbrev pub is_touched : Act → CableWorld → NodeNumber → Bool
is_touched (Plug a b) w k = (k == a.node) || (k == b.node)
is_touched (Pull a) w k = (k == a.node) || is_end_at k (far w.cabling a)
is_touched (Reset node) w k = k == node
is_touched (Config from root_id force gap) w k = k == from

-- once an act is done this is a component, and it resets none of its nodes
pub record IsUntouched
    (a : Act) (w v : CableWorld) (node : NodeNumber) (set : NodeSet)
    : Type 0 where
  pub component : IsComponent v.cabling node set
  pub none : (k : NodeNumber) → Holds set k → Touches a w k → ⊥

-- ---- laws

abbrev pub TouchesAreTested : Type 0
TouchesAreTested =
    (a : Act) (w : CableWorld) (k : NodeNumber) → IsTrue (is_touched a w k) ↔ Touches a w k

-- each node that an act resets has just begun a reset
abbrev pub TouchedNodesReset : Type 0
TouchedNodesReset =
    InActs (λ a w v. (k : NodeNumber) → Touches a w k →
    AtView v k (λ u. (u.phase ≡ ResetStart) × (u.timer ≡ 0)))

-- each node of an untouched component, with its cables and wires, is as it was
abbrev pub ActsTouchTheirComponent : Type 0
ActsTouchTheirComponent =
    InActs (λ a w v. (node : NodeNumber) (set : NodeSet) → IsUntouched a w v node set →
    (k : NodeNumber) → Holds set k → NodeStands w v k)

-- and it was a component before
abbrev pub UntouchedComponentsStay : Type 0
UntouchedComponentsStay =
    InActs (λ a w v. (node : NodeNumber) (set : NodeSet) → IsUntouched a w v node set →
    IsComponent w.cabling node set)

-- so a tree stays in every act that doesn't touch it
abbrev pub UntouchedTreesStay : Type 0
UntouchedTreesStay =
    (a : Act) (w v : CableWorld) (node : NodeNumber) (set : NodeSet) (root : NodeNumber)
    (t : Tree) → Acted a w v → ComesOfPowerOn w → IsUntouched a w v node set → IsTree w set root t →
    IsTree v set root t
